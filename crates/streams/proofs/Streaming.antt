-- A listing cut into reads in any way: what the steps write is the definition's text of the whole.
-- Assumes nothing.
use mathlib.Core.Path.{◌≡◌, refl, sym, ap, ap₂, ◌∙◌}
use mathlib.Core.Bool.{Bool, true, false, ◌&&◌}
use mathlib.Core.List.{List, [], ◌∷◌, ◌++◌, append_assoc, append-nil}
use Prim.Native.Nat.{ℕ, zero, suc, ◌+◌, ◌-◌, ◌^◌, ◌≤◌, ◌<◌}
use native.Mathlib.Omega.{arith}
use lib.Dec.{ltb, leb, lit≤}
use lib.ListN.{length, take, drop, length-append, length-drop, get_or-append, drop_of_length-le}
use lib.Seq.{drop-length, length-take-le, take-append-le, drop-append-le, drop-append-add, get_or-drop, drop-drop}
use borrow.Author.Tests.{lt-ltb, le-ltb, le-leb, lt-leb, ltb-true, ltb-false}
use Rattle.text.specs.Choice.{when}
use Rattle.text.proofs.Choosing.{cond_by}
use Rattle.text.specs.Words.{join}
use Rattle.answers.specs.Refusals.{answer_of}
use Rattle.answers.specs.Lines.{refused_line}
use Rattle.frames.specs.Numbers.{byte}
use Rattle.frames.specs.Frames.{body_length, is_whole, body_of, known_version}
use Rattle.frames.proofs.FrameAt.{size_whole, size_cut}
use Rattle.bodies.specs.Refusals.{longest_body}
use Rattle.bodies.proofs.Versions.{long_body_refused}
use Rattle.bodies.specs.WellFormed.{Bytes}
use Rattle.records.specs.declared.Asked.{Asked}
use Rattle.records.specs.Records.{in_version, refusals}
use Rattle.records.specs.Lines.{record_line}
use Rattle.records.proofs.Texts.{line_refused}
use Rattle.listings.specs.Lines.{cut_line, lines_of, listing_text}
use Rattle.streams.specs.Stream.{Taken, taken, ended, refused_by, skipped, version_step, frame_step, stepped, Alive, cut_at, Streams}
use Rattle.streams.specs.Code.{remaining}
use Rattle.streams.specs.Stream.Streams.{read, step, end}
use Rattle.streams.specs.declared.Stage.{Stage}
use Rattle.streams.specs.declared.Stage.TheVariants.{Version, Frames, Skip, Done}
use Rattle.streams.proofs.Stepping.{skipped_some, bounded}
use Rattle.listings.proofs.LineLaws.{lines_none, lines_some}
use Rattle.listings.proofs.Fronts.{front_whole, front_cut}

-- the bytes of a part are bytes: after a place, and those of a frame's body
bytes_take : (n : ℕ) (xs : List ℕ) (at : ℕ) → byte xs at < 2 ^ 8 → byte (take n xs) at < 2 ^ 8
bytes_take zero xs at h = lit≤ tt
bytes_take (suc n) [] at h = h
bytes_take (suc n) (x ∷ xs) zero h = h
bytes_take (suc n) (x ∷ xs) (suc at) h = bytes_take n xs at h

pub bytes_drop : (xs : List ℕ) (n : ℕ) → Bytes xs → Bytes (drop n xs)
bytes_drop xs n small at = rw (get_or-drop n xs at 0) (small (n + at))

pub bytes-body : (xs : List ℕ) → Bytes xs → Bytes (body_of xs)
bytes-body xs small at = bytes_take (body_length xs) (drop 2 xs) at (bytes_drop xs 2 small at)

-- a longer body than any that is right has the answer of one that is skipped, and its line
pub long_answer : (asked : Asked) (body : List ℕ) → longest_body < length body → Bytes body → answer_of (refusals asked body) ≡ skipped asked
unfolding refusals
long_answer asked body long small = rw (long_body_refused asked.version body long small)

long_refused : (asked : Asked) (body : List ℕ) → longest_body < length body → Bytes body → record_line asked body ≡ refused_line (skipped asked)
long_refused asked body long small = line_refused asked body (sym (long_answer asked body long small)) (skipped_some asked)

-- the frame in front is cut, or whole
pub part_cut : (xs : List ℕ) → length xs < 2 + body_length xs → is_whole xs ≡ false
part_cut xs h = second (leb 2 (length xs)) (lt-leb (2 + body_length xs) (length xs) h)
  where
    second : (a : Bool) {b : Bool} → b ≡ false → (a && b) ≡ false
    second true e = e
    second false e = refl

pub all_whole : (xs : List ℕ) → 2 + body_length xs ≤ length xs → is_whole xs ≡ true
all_whole xs h = rw (le-leb 2 (length xs) (omega arith), le-leb (2 + body_length xs) (length xs) h)

-- more bytes after the length do not change it
pub length_stays : (xs ys : List ℕ) → 2 ≤ length xs → body_length (xs ++ ys) ≡ body_length xs
length_stays xs ys h = rw (get_or-append xs ys 0 0 (omega arith), get_or-append xs ys 0 1 (omega arith))

-- nor do more bytes after a whole frame change its body and what comes after it
module _ (xs ys : List ℕ) (h : 2 + body_length xs ≤ length xs) where
  pub body_stays : body_of (xs ++ ys) ≡ body_of xs
  body_stays =
      ap₂ (λ (k : ℕ) (zs : List ℕ). take k zs) (length_stays xs ys (omega arith)) (drop-append-le 2 xs ys (omega arith))
      ∙ take-append-le (body_length xs) (drop 2 xs) ys (omega (arith, length-drop 2 xs))

  pub after_stays : drop (2 + body_length (xs ++ ys)) (xs ++ ys) ≡ drop (2 + body_length xs) xs ++ ys
  after_stays =
      ap (λ (k : ℕ). drop (2 + k) (xs ++ ys)) (length_stays xs ys (omega arith)) ∙ drop-append-le (2 + body_length xs) xs ys h

module _ (asked : Asked) (xs : List ℕ) where
  -- the lines of part of a frame
  pub lines-part : length xs < 2 + body_length xs → lines_of asked xs ≡ when (ltb 0 (length xs)) cut_line
  lines-part h = cond_by (λ (t : List ℕ). lines_of asked xs ≡ t) (ltb 0 (length xs)) some none
    where
      cut : is_whole xs ≡ false
      cut = part_cut xs h

      some : ltb 0 (length xs) ≡ true → lines_of asked xs ≡ cut_line
      some e =
          lines_some asked xs (ltb-true 0 (length xs) e)
          ∙ rw (front_cut asked xs cut, size_cut xs cut, drop-length xs, lines_none asked)

      none : ltb 0 (length xs) ≡ false → lines_of asked xs ≡ []
      none e = ap (lines_of asked) (drop_of_length-le xs {i = 0} (ltb-false 0 (length xs) e)) ∙ lines_none asked

  -- the lines of a whole frame, and of what comes after it
  pub lines_whole : 2 + body_length xs ≤ length xs → lines_of asked xs ≡ record_line asked (body_of xs) ++ lines_of asked (drop (2 + body_length xs) xs)
  lines_whole h =
      lines_some asked xs (omega arith)
      ∙ rw (front_whole asked xs (all_whole xs h), size_whole xs (all_whole xs h))

-- the lines of a frame whose body is too long: its bytes only count
lines_skip : (version : ℕ) (asked : Asked) (xs : List ℕ) (size : ℕ) → Bytes xs → 2 ≤ length xs → longest_body < body_length xs → lines_of (in_version version asked) xs ≡ remaining asked (Skip (body_length xs) size version) (drop 2 xs)
unfolding remaining
lines_skip version asked xs size small two long = cond_by (λ (t : List ℕ). lines_of told xs ≡ t) (ltb (length (drop 2 xs)) n) part whole
  where
    told : Asked
    told = in_version version asked

    n : ℕ
    n = body_length xs

    part : ltb (length (drop 2 xs)) n ≡ true → lines_of told xs ≡ cut_line
    part e =
        lines-part told xs (omega (arith, ltb-true (length (drop 2 xs)) n e, length-drop 2 xs))
        ∙ rw (lt-ltb 0 (length xs) (omega arith))

    whole : ltb (length (drop 2 xs)) n ≡ false → lines_of told xs ≡ refused_line (skipped told) ++ lines_of told (drop n (drop 2 xs))
    whole e =
        let fits : n ≤ length (drop 2 xs) = ltb-false (length (drop 2 xs)) n e in
        let sized : length (body_of xs) ≡ n = length-take-le n (drop 2 xs) fits in
        lines_whole told xs (omega (arith, length-drop 2 xs))
        ∙ rw (long_refused told (body_of xs) (omega arith) (bytes-body xs small), ← (drop-drop n 2 xs))

-- what a step keeps of what is still to be said, and what is said last where it uses nothing
pub record Sound (asked : Asked) (stage : Stage) (held : List ℕ) (t : Taken) : Type 0 where
  pub keeps : (ys : List ℕ) → Bytes (held ++ ys) → remaining asked stage (held ++ ys) ≡ t.says ++ remaining asked t.stage (drop t.used held ++ ys)
  pub ends : t.used ≡ 0 → remaining asked stage held ≡ when (cut_at stage (length held)) cut_line

-- a step that uses bytes is not the last
module _ {asked : Asked} {stage : Stage} {held : List ℕ} where
  sound_using : {t : Taken} → 0 < t.used → ((ys : List ℕ) → Bytes (held ++ ys) → remaining asked stage (held ++ ys) ≡ t.says ++ remaining asked t.stage (drop t.used held ++ ys)) → Sound asked stage held t
  sound_using some keeps = record { keeps = keeps; ends = λ z. absurd (omega arith) }

version_sound : (asked : Asked) (held : List ℕ) → Sound asked Version held (version_step held)
unfolding remaining listing_text
version_sound asked [] = record { keeps = λ ys small. refl; ends = λ e. refl }
version_sound asked (x ∷ xs) =
    cond_by (Sound asked Version (x ∷ xs)) (known_version x) (λ e. sound_using (lit≤ tt) (λ ys small. rw e))
    (λ e. sound_using (lit≤ tt) (λ ys small. rw e))

module _ (version : ℕ) (asked : Asked) (held : List ℕ) where
  abbrev told : Asked
  told = in_version version asked

  -- too few bytes for the frame: they wait
  wait_sound : length held < 2 + body_length held → Sound asked (Frames version) held (taken (Frames version) 0 [])
  unfolding remaining
  wait_sound h = record { keeps = λ ys small. refl; ends = λ z. lines-part told held h }

  long_sound : 2 ≤ length held → longest_body < body_length held → Sound asked (Frames version) held (taken (Skip (body_length held) (2 + body_length held) version) 2 [])
  unfolding remaining
  long_sound two long = sound_using (lit≤ tt) keeps
    where
      keeps : (ys : List ℕ) → Bytes (held ++ ys) → lines_of told (held ++ ys) ≡ remaining asked (Skip (body_length held) (2 + body_length held) version) (drop 2 held ++ ys)
      keeps ys small =
          let same = length_stays held ys two in
          lines_skip version asked (held ++ ys) (2 + body_length held) small (omega (arith, length-append held ys)) (omega arith)
          ∙ ap₂ (λ (n : ℕ) (zs : List ℕ). remaining asked (Skip n (2 + body_length held) version) zs) same (drop-append-le 2 held ys two)

  whole_sound : 2 + body_length held ≤ length held → Sound asked (Frames version) held (ended (Frames version) (2 + body_length held) (record_line told (body_of held)) (refused_by (answer_of (refusals told (body_of held)))))
  unfolding remaining
  whole_sound h = sound_using (omega arith) keeps
    where
      keeps : (ys : List ℕ) → Bytes (held ++ ys) → lines_of told (held ++ ys) ≡ record_line told (body_of held) ++ lines_of told (drop (2 + body_length held) held ++ ys)
      keeps ys small =
          lines_whole told (held ++ ys) (omega (arith, length-append held ys, length_stays held ys (omega arith)))
          ∙ ap₂ (λ (b zs : List ℕ). record_line told b ++ lines_of told zs) (body_stays held ys h) (after_stays held ys h)

  frame_sound : Sound asked (Frames version) held (frame_step version asked held)
  frame_sound =
      cond_by S (ltb (length held) 2) (λ e. wait_sound (omega (arith, ltb-true (length held) 2 e)))
      (λ e. let two : 2 ≤ length held = ltb-false (length held) 2 e in
      cond_by S (ltb longest_body n) (λ e. long_sound two (ltb-true longest_body n e))
      (λ e.
      cond_by S (ltb (length held) (2 + n)) (λ e. wait_sound (ltb-true (length held) (2 + n) e))
      (λ e. whole_sound (ltb-false (length held) (2 + n) e))))
    where
      n : ℕ
      n = body_length held

      S : Taken → Type 0
      S = Sound asked (Frames version) held

-- the same bytes on both sides of a test
pub ltb_shift : (a b c : ℕ) → ltb (a + b) (a + c) ≡ ltb b c
ltb_shift a b c = go (ltb b c) refl
  where
    go : (t : Bool) → ltb b c ≡ t → ltb (a + b) (a + c) ≡ t
    go true e = lt-ltb (a + b) (a + c) (omega (arith, ltb-true b c e))
    go false e = le-ltb (a + b) (a + c) (omega (arith, ltb-false b c e))

module _ (asked : Asked) (left size version : ℕ) (held : List ℕ) where
  skip_some_sound : length held < left → Sound asked (Skip left size version) held (taken (Skip (left - length held) size version) (length held) [])
  unfolding remaining
  skip_some_sound h =
      record { keeps = keeps; ends = λ z. rw (lt-ltb (length held) left h) }
    where
      n : ℕ
      n = left - length held

      keeps : (ys : List ℕ) → Bytes (held ++ ys) → remaining asked (Skip left size version) (held ++ ys) ≡ remaining asked (Skip n size version) (drop (length held) held ++ ys)
      keeps ys small =
          let sum : left ≡ length held + n = omega arith in
          ap (λ (k : ℕ). remaining asked (Skip k size version) (held ++ ys)) sum
          ∙ rw (length-append held ys, ltb_shift (length held) (length ys) n, drop-append-add held ys n, drop-length held)

  skip_all_sound : 0 < left → left ≤ length held → Sound asked (Skip left size version) held (ended (Frames version) left (refused_line (skipped (in_version version asked))) 1)
  unfolding remaining
  skip_all_sound some h =
      sound_using some
      (λ ys small.
      rw (le-ltb (length (held ++ ys)) left (omega (arith, length-append held ys)), drop-append-le left held ys h))

-- every step, at each stage
pub step_sound : (asked : Asked) (stage : Stage) (held : List ℕ) → Alive stage → Sound asked stage held (stepped asked stage held)
unfolding stepped remaining
step_sound asked Version held alive = version_sound asked held
step_sound asked (Frames version) held alive = frame_sound version asked held
step_sound asked (Skip left size version) held alive =
    cond_by (Sound asked (Skip left size version) held) (ltb (length held) left) (λ e. skip_some_sound asked left size version held (ltb-true (length held) left e))
    (λ e. skip_all_sound asked left size version held alive.0 (ltb-false (length held) left e))
step_sound asked Done held alive =
    record { keeps = λ ys small. refl; ends = λ z. refl }

-- what is written from a stage on is what was still to be said
streamed_from : {asked : Asked} {stage : Stage} {held : List ℕ} {reads : List (List ℕ)} {written : List ℕ} → Bytes (held ++ join reads) → Alive stage → Streams asked stage held reads written → written ≡ remaining asked stage (held ++ join reads)
streamed_from {asked} {stage} {held} small alive (read {bytes = more} {reads = reads} s) =
    let same = append_assoc held more (join reads) in
    rw (← same) (streamed_from (rw same small) alive s)
streamed_from {asked} {stage} {held} {reads} small alive (step s) =
    let t = stepped asked stage held in
    let sound = step_sound asked stage held alive in
    let bound = bounded asked stage held alive in
    let after = drop-append-le t.used held (join reads) bound.uses in
    let rest : Bytes (drop t.used held ++ join reads) = rw (← after) (bytes_drop (held ++ join reads) t.used small) in
    ap (λ (u : List ℕ). t.says ++ u) (streamed_from rest bound.alive s)
    ∙ sym (sound.keeps (join reads) small)
streamed_from {asked} {stage} {held} small alive (end e) = rw (append-nil held) (sym ((step_sound asked stage held alive).ends e))

-- For any way the input is cut into reads, what the steps write is the definition's text of the whole.
pub streamed : (asked : Asked) → {reads : List (List ℕ)} {written : List ℕ} → Bytes (join reads) → Streams asked Version [] reads written → written ≡ listing_text asked (join reads)
unfolding remaining
streamed asked small s = streamed_from small tt s

-- bytes that no step uses are few: so many the buffer must hold between two reads
pub held_short : (asked : Asked) (stage : Stage) (held : List ℕ) → Alive stage → (stepped asked stage held).used ≡ 0 → length held ≤ longest_body + 1
held_short asked stage held alive = (bounded asked stage held alive).few
