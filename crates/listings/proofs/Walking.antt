-- The loop over the frames of a listing, or over a body alone: what is left of the text at each place.
-- Assumes nothing.
use Rattle.std.specs.Prelude.{Option}
use mathlib.Core.Path.{◌≡◌, refl, sym, ap, ◌∙◌}
use mathlib.Core.Bool.{Bool, true, false}
use mathlib.Core.List.{List, [], ◌++◌}
use Prim.Native.Nat.{ℕ, ◌+◌, ◌-◌, ◌^◌, ◌≤◌, ◌<◌}
use native.Mathlib.Omega.{arith}
use lib.ListN.{length, drop, length-append, length-drop}
use lib.Seq.{drop-drop, drop-length}
use Rattle.text.specs.Write.{write}
use Rattle.text.specs.Code.{Room, Put}
use Rattle.text.proofs.Writing.{write_none, write-write}
use Rattle.text.proofs.Putting.{put_length}
use Rattle.answers.specs.Reasons.{answer_as}
use Rattle.answers.specs.Refusals.{answer_of}
use Rattle.answers.specs.declared.Reason.{Reason}
use Rattle.lines.specs.Text.{longest_line}
use Rattle.records.specs.declared.Asked.{Asked}
use Rattle.records.specs.Records.{refusals}
use Rattle.records.specs.Judged.{text_of}
use Rattle.records.proofs.Texts.{alone_short}
use Rattle.listings.specs.Lines.{lines_of}
use Rattle.listings.specs.Listings.{size_limit}
use Rattle.listings.specs.declared.Next.{Next}
use Rattle.listings.specs.declared.Walked.{Walked}
use Rattle.listings.specs.Code.{front_of, size_of, all_of, whole_text, place_of, Stepped, Walkable, Walks}
use Rattle.listings.proofs.LineLaws.{lines_short}
use Rattle.listings.proofs.Fronts.{size_within, front_of_most, all_none, all_some}

module _ (alone : Bool) (asked : Asked) (xs : List ℕ) where
  -- the text from a place on
  abbrev pub all_at : ℕ → List ℕ
  all_at at = all_of alone asked (drop at xs)

  module _ (at : ℕ) (some : at < length xs) where
    there : 0 < length (drop at xs)
    there = rw length-drop (omega arith)

    -- the text of what stands at a place, and that from the place after it on
    pub all_next : all_at at ≡ front_of alone asked (drop at xs) ++ all_at (at + size_of alone (drop at xs))
    all_next = all_some alone asked (drop at xs) there ∙ rw (drop-drop (size_of alone (drop at xs)) at xs)

    -- the place after is within the bytes
    pub next_within : at + size_of alone (drop at xs) ≤ length xs
    next_within = omega (arith, size_within alone (drop at xs), length-drop at xs)

  -- at the end none is left
  pub all_end : (at : ℕ) → length xs ≤ at → at ≤ length xs → all_at at ≡ []
  all_end at h l =
      let end : at ≡ length xs = omega arith in
      ap (all_of alone asked) (ap (λ (n : ℕ). drop n xs) end ∙ drop-length xs) ∙ all_none alone asked

-- the text from `at` on is all that is left, after `total` bytes of it; where nothing is put aside it belongs at that place. Alone, the
-- one place is the first, and its answer is known after it.
pub record Walking (alone aside : Bool) (asked : Asked) (xs before : List ℕ) (at total : ℕ) (refused : Option Reason) (text : List ℕ) : Type 0 where
  pub placed : at ≤ length xs
  pub left : total + length (all_at alone asked xs at) ≡ length (whole_text alone asked xs)
  pub same : length text ≡ length before
  pub rest : aside ≡ false → write text total (all_at alone asked xs at) ≡ write before 0 (whole_text alone asked xs)
  pub fresh : alone ≡ true → at < length xs → at ≡ 0
  pub answer : alone ≡ true → length xs ≤ at → answer_as refused ≡ answer_of (refusals asked xs)

module _ {alone aside : Bool} {asked : Asked} {xs before : List ℕ} {at total : ℕ} {refused : Option Reason} {text : List ℕ} (w : Walking alone aside asked xs before at total refused text) (room : Walkable alone aside asked xs before) (h : at < length xs) where
  abbrev front : List ℕ
  front = front_of alone asked (drop at xs)

  abbrev after : List ℕ
  after = all_at alone asked xs (at + size_of alone (drop at xs))

  parts : length (all_at alone asked xs at) ≡ length front + length after
  parts = ap length (all_next alone asked xs at h) ∙ length-append front after

  -- there is room for the next text
  pub front-room : {place : ℕ} → place ≡ place_of aside total → Room text place front
  front-room {place} e = record { fits = go aside refl }
    where
      go : (b : Bool) → aside ≡ b → place + length front ≤ length text
      go true q =
          let start : place ≡ 0 = e ∙ ap (λ (c : Bool). place_of c total) q in
          omega (arith, start, room.line q, w.same, front_of_most alone asked (drop at xs))
      go false q =
          let here : place ≡ total = e ∙ ap (λ (c : Bool). place_of c total) q in
          omega (arith, here, room.whole q, w.same, w.left, parts)

  module _ {place : ℕ} {next : Next} {text' : List ℕ} (e : place ≡ place_of aside total) (s : Stepped alone asked xs at text place next text') where
    -- its length is what is added
    pub front_length : next.out - place ≡ length front
    front_length = omega (arith, s.put.next)

    pub total-number : total + (next.out - place) < 2 ^ 64
    total-number = omega (arith, front_length, w.left, parts, room.number)

    pub step_within : next.at ≤ length xs
    step_within = omega (arith, s.place, next_within alone asked xs at h)

    pub step_same : length text' ≡ length before
    step_same = put_length (front-room e) s.put ∙ w.same

    -- one step further
    pub walked : {total' : ℕ} → total' ≡ total + (next.out - place) → Walking alone aside asked xs before next.at total' next.refused text'
    walked {total'} t =
        let more : total' ≡ total + length front = omega (arith, t, front_length) in
        record {
          placed = step_within;
          left = rw s.place (omega (arith, more, w.left, parts));
          same = step_same;
          rest = λ q.
              let here : place ≡ total = e ∙ ap (λ (c : Bool). place_of c total) q in
              rw (s.place, more, s.put.text, here)
              (write-write text total front (omega (arith, here, (front-room e).fits)) after ∙ ap (write text total) (sym (all_next alone asked xs at h)) ∙ w.rest q);
          fresh = λ q l. absurd (let zero : at ≡ 0 = w.fresh q h in omega (arith, l, zero, ends q zero));
          answer = λ q l. s.answer q ∙ ap (λ (n : ℕ). answer_of (refusals asked (drop n xs))) (w.fresh q h);
        }
      where
        ends : alone ≡ true → at ≡ 0 → length xs ≤ next.at
        ends q z = omega (arith, s.place, z, ap (λ (b : Bool). size_of b (drop at xs)) q, length-drop at xs)

-- where it ends, it went over all
pub walked_through : {alone aside : Bool} {asked : Asked} {xs before : List ℕ} {at total : ℕ} {refused : Option Reason} {text : List ℕ} → Walking alone aside asked xs before at total refused text → length xs ≤ at → Walks alone aside asked xs before (record { refused = refused; total = total }) text
walked_through {alone} {aside} {asked} {xs} {before} {at} {total} {refused} {text} w h =
    let none = all_end alone asked xs at h w.placed in
    record {
      total = omega (arith, w.left, ap length none);
      put = λ q. sym (write_none text total) ∙ ap (write text total) (sym none) ∙ w.rest q;
      answer = λ q. w.answer q h;
    }

-- the whole text of a listing is its lines, and of a body its own; its length is a number of the machine
pub whole-lines : (asked : Asked) (xs : List ℕ) → whole_text false asked xs ≡ lines_of asked (drop 1 xs)
unfolding all_of
whole-lines asked xs = refl

pub whole_alone : (asked : Asked) (xs : List ℕ) → whole_text true asked xs ≡ text_of true asked xs
unfolding all_of
whole_alone asked xs = refl

lines-number : (asked : Asked) (xs : List ℕ) → length xs ≤ size_limit → length (whole_text false asked xs) < 2 ^ 64
lines-number asked xs few = rw (whole-lines asked xs) (omega (arith, lines_short asked (drop 1 xs), length-drop 1 xs, few))

-- there is room for the frames of a listing within the limit: aside, and where their lines fit
pub lines_aside : (asked : Asked) (xs text : List ℕ) → length xs ≤ size_limit → longest_line + 1 ≤ length text → Walkable false true asked xs text
lines_aside asked xs text few h = record { line = λ _. h; whole = λ q. absurd (let z : ◌≡◌ {A = ℕ} 0 1 = cc in omega arith); number = lines-number asked xs few }

pub lines_fit : (asked : Asked) (xs text : List ℕ) → length xs ≤ size_limit → length (lines_of asked (drop 1 xs)) ≤ length text → Walkable false false asked xs text
lines_fit asked xs text few h = record { line = λ q. absurd (let z : ◌≡◌ {A = ℕ} 0 1 = cc in omega arith); whole = λ _. rw (whole-lines asked xs) h; number = lines-number asked xs few }

-- and for a body alone in a buffer for the longest line
pub alone_fits : (asked : Asked) (xs text : List ℕ) → longest_line ≤ length text → Walkable true false asked xs text
alone_fits asked xs text h =
    let short : length (whole_text true asked xs) ≤ longest_line = rw (whole_alone asked xs) (alone_short asked xs) in
    record { line = λ q. absurd (let z : ◌≡◌ {A = ℕ} 0 1 = cc in omega arith); whole = λ _. omega (arith, short, h); number = omega (arith, short) }

-- what was put of it
pub lines_put : {asked : Asked} {xs before : List ℕ} {r : Walked} {after : List ℕ} → Walks false false asked xs before r after → Put before 0 (lines_of asked (drop 1 xs)) r.total after
lines_put {asked} {xs} w = rw (← (whole-lines asked xs)) (record { next = omega (arith, w.total); text = w.put refl })

-- of a body alone, whose walk came to this answer and this length
module _ {asked : Asked} {xs before : List ℕ} {r : Walked} {after : List ℕ} (w : Walks true false asked xs before r after) where
  pub alone_answer : {refused : Option Reason} → r.refused ≡ refused → answer_as refused ≡ answer_of (refusals asked xs)
  alone_answer is = ap answer_as (sym is) ∙ w.answer refl

  module _ {n : ℕ} (is : n ≡ r.total) where
    pub alone_put : Put before 0 (text_of true asked xs) n after
    alone_put = rw (← (whole_alone asked xs)) (record { next = omega (arith, is, w.total); text = w.put refl })

    pub alone_within : longest_line ≤ length before → n ≤ length after
    alone_within h =
        let room : Room before 0 (text_of true asked xs) = record { fits = omega (arith, h, alone_short asked xs) } in
        omega (arith, room.fits, alone_put.next, put_length room alone_put)

pub lines-total : {aside : Bool} {asked : Asked} {xs before : List ℕ} {r : Walked} {after : List ℕ} → Walks false aside asked xs before r after → r.total ≡ length (lines_of asked (drop 1 xs))
lines-total {asked = asked} {xs = xs} w = w.total ∙ ap length (whole-lines asked xs)
