-- How a whole run ends, and where: as the listing does.
-- Assumes nothing.
use mathlib.Core.Path.{◌≡◌, refl, sym, ap, ap₂, subst, ◌∙◌}
use mathlib.Core.Bool.{Bool, true, false, cond}
use mathlib.Core.List.{List, [], ◌∷◌, ◌++◌, append_assoc, append-nil}
use Prim.Native.Nat.{ℕ, zero, suc, ◌+◌, ◌-◌, ◌≤◌, ◌<◌}
use native.Mathlib.Nat.{not-suc-le-zero}
use native.Mathlib.Omega.{arith}
use lib.Dec.{ltb, lit≤}
use lib.ListN.{length, drop, length-append, length-drop}
use lib.Seq.{drop-length, drop-append-le, drop-append-add, drop-drop}
use borrow.Author.Tests.{lt-ltb, le-ltb, ltb-true, ltb-false}
use Rattle.text.specs.Words.{join}
use Rattle.text.proofs.Choosing.{cond_by}
use Rattle.answers.specs.Refusals.{answer_of}
use Rattle.answers.specs.Lines.{refused_line}
use Rattle.frames.specs.Frames.{body_length, is_whole, body_of, frame_size, known_version}
use Rattle.frames.proofs.FrameAt.{size_whole}
use Rattle.bodies.specs.Refusals.{longest_body}
use Rattle.records.specs.declared.Asked.{Asked}
use Rattle.records.specs.Records.{in_version, refusals}
use Rattle.records.specs.Lines.{record_line}
use Rattle.streams.specs.Stream.{Taken, taken, ended, refused_by, skipped, version_step, frame_step, stepped, Alive, begun_of}
use Rattle.streams.specs.Pass.{Steps, next_at, Rests, Follows, Passes}
use Rattle.streams.specs.Pass.Steps.{none as no_step, more as step_more}
use Rattle.streams.specs.Pass.Follows.{full as is_full, rests}
use Rattle.streams.specs.Runs.{Runs}
use Rattle.streams.specs.Runs.Runs.{full as run_full, more as run_more, none as run_none, stop}
use Rattle.streams.specs.Counts.{tail_within, tail_of, Ending, ending, frames_end, listing_end}
use Rattle.streams.specs.declared.Passed.{Passed}
use Rattle.streams.specs.declared.Stage.{Stage}
use Rattle.streams.specs.declared.Stage.TheVariants.{Version, Frames, Skip, Done}
use Rattle.streams.specs.declared.Next.{Next}
use Rattle.streams.specs.declared.Next.TheVariants.{Read, Whole, Cut, Unknown}
use Rattle.listings.proofs.LineLaws.{frame_some}
use Rattle.streams.proofs.Stepping.{bounded}
use Rattle.streams.proofs.Streaming.{part_cut, all_whole, length_stays, after_stays, ltb_shift}

-- it does not matter how many frames are allowed for, if there are enough
tail_none : (k : ℕ) → tail_within k [] ≡ 0
unfolding tail_within
tail_none zero = refl
tail_none (suc k) = refl

tail_any : (k j : ℕ) (xs : List ℕ) → length xs ≤ k → length xs ≤ j → tail_within k xs ≡ tail_within j xs
unfolding tail_within
tail_any zero j [] h l = sym (tail_none j)
tail_any (suc k) j [] h l = sym (tail_none j)
tail_any zero j (x ∷ xs) h l = absurd (not-suc-le-zero h)
tail_any (suc k) zero (x ∷ xs) h l = absurd (not-suc-le-zero l)
tail_any (suc k) (suc j) (x ∷ xs) h l =
    let ys = x ∷ xs in
    let some : 0 < frame_size ys = frame_some ys (omega arith) in
    let left : length (drop (frame_size ys) ys) ≡ length ys - frame_size ys = length-drop (frame_size ys) ys in
    ap (λ (n : ℕ). cond (is_whole ys) n (length ys))
    (tail_any k j (drop (frame_size ys) ys) (omega (arith, left, some)) (omega (arith, left, some)))

-- part of a frame is left, all of it
pub tail_part : (xs : List ℕ) → is_whole xs ≡ false → tail_of xs ≡ length xs
unfolding tail_of tail_within
tail_part [] e = refl
tail_part (x ∷ xs) e = rw e

-- nothing is left of a whole frame
tail_whole : (xs : List ℕ) → 2 + body_length xs ≤ length xs → tail_of xs ≡ tail_of (drop (2 + body_length xs) xs)
unfolding tail_of tail_within
tail_whole [] h = absurd (omega (arith, h))
tail_whole (x ∷ xs) h =
    let ys = x ∷ xs in
    let size = size_whole ys (all_whole ys h) in
    let left : length (drop (frame_size ys) ys) ≡ length ys - frame_size ys = length-drop (frame_size ys) ys in
    ap (λ (b : Bool). cond b (tail_within (length xs) (drop (frame_size ys) ys)) (length ys)) (all_whole ys h)
    ∙ tail_any (length xs) (length (drop (frame_size ys) ys)) (drop (frame_size ys) ys) (omega (arith, left, size)) (omega arith)
    ∙ ap (λ (n : ℕ). tail_within (length (drop n ys)) (drop n ys)) size

-- the end of what is to come, by the bytes that are left
pub end_by : (xs : List ℕ) {n : ℕ} → tail_of xs ≡ n → frames_end xs ≡ ending (cond (ltb 0 n) Cut Whole) n
unfolding frames_end
end_by xs e = ap (λ (n : ℕ). ending (cond (ltb 0 n) Cut Whole) n) e

pub end_whole : (xs : List ℕ) → 2 + body_length xs ≤ length xs → frames_end xs ≡ frames_end (drop (2 + body_length xs) xs)
unfolding frames_end
end_whole xs h = end_by xs (tail_whole xs h)

-- how a listing ends, from a stage on
unfoldable pub end_from : Stage → List ℕ → Ending
end_from Version xs = listing_end xs
end_from (Frames version) xs = frames_end xs
end_from (Skip left size version) xs = cond (ltb (length xs) left) (ending Cut (size - left + length xs)) (frames_end (drop left xs))
end_from Done xs = ending Unknown 0

end_skip : (version : ℕ) (xs : List ℕ) → 2 ≤ length xs → frames_end xs ≡ end_from (Skip (body_length xs) (2 + body_length xs) version) (drop 2 xs)
unfolding end_from
end_skip version xs two = cond_by (λ (t : Ending). frames_end xs ≡ t) (ltb (length (drop 2 xs)) n) part whole
  where
    n : ℕ
    n = body_length xs

    part : ltb (length (drop 2 xs)) n ≡ true → frames_end xs ≡ ending Cut (2 + n - n + length (drop 2 xs))
    part e =
        let short : length xs < 2 + n = omega (arith, ltb-true (length (drop 2 xs)) n e, length-drop 2 xs) in
        let same : length xs ≡ 2 + n - n + length (drop 2 xs) = omega (arith, two, length-drop 2 xs) in
        end_by xs (tail_part xs (part_cut xs short))
        ∙ ap (λ (b : Bool). ending (cond b Cut Whole) (length xs)) (lt-ltb 0 (length xs) (omega (arith, two)))
        ∙ ap (ending Cut) same

    whole : ltb (length (drop 2 xs)) n ≡ false → frames_end xs ≡ frames_end (drop n (drop 2 xs))
    whole e =
        end_whole xs (omega (arith, ltb-false (length (drop 2 xs)) n e, length-drop 2 xs, two))
        ∙ ap frames_end (sym (drop-drop n 2 xs))

-- a step keeps it, and where it uses nothing the bytes held are those of the frame that is cut
pub record Ends (stage : Stage) (held : List ℕ) (t : Taken) : Type 0 where
  pub keeps : (ys : List ℕ) → end_from stage (held ++ ys) ≡ end_from t.stage (drop t.used held ++ ys)
  pub last : t.used ≡ 0 → end_from stage held ≡ ending (next_at true stage (length held)) (begun_of stage + length held)

ends_using : {stage : Stage} {held : List ℕ} {t : Taken} → 0 < t.used → ((ys : List ℕ) → end_from stage (held ++ ys) ≡ end_from t.stage (drop t.used held ++ ys)) → Ends stage held t
ends_using some keeps = record { keeps = keeps; last = λ z. absurd (omega arith) }

version_ends : (held : List ℕ) → Ends Version held (version_step held)
unfolding end_from listing_end
version_ends [] = record { keeps = λ ys. refl; last = λ z. refl }
version_ends (x ∷ xs) =
    cond_by (Ends Version (x ∷ xs)) (known_version x) (λ e. ends_using (lit≤ tt) (λ ys. rw e))
    (λ e. ends_using (lit≤ tt) (λ ys. rw e))

module _ (version : ℕ) (asked : Asked) (held : List ℕ) where
  wait_ends : length held < 2 + body_length held → Ends (Frames version) held (taken (Frames version) 0 [])
  unfolding end_from
  wait_ends h = record { keeps = λ ys. refl; last = λ z. all_left }
    where
      none : length held ≡ 0 + length held
      none = omega arith

      all_left : frames_end held ≡ ending (cond (ltb 0 (length held)) Cut Whole) (0 + length held)
      all_left =
          end_by held (tail_part held (part_cut held h)) ∙ ap (ending (cond (ltb 0 (length held)) Cut Whole)) none

  long_ends : 2 ≤ length held → Ends (Frames version) held (taken (Skip (body_length held) (2 + body_length held) version) 2 [])
  unfolding end_from
  long_ends two =
      ends_using (lit≤ tt)
      (λ ys.
      end_skip version (held ++ ys) (omega (arith, two, length-append held ys))
      ∙ ap₂ (λ (n : ℕ) (zs : List ℕ). end_from (Skip n (2 + n) version) zs) (length_stays held ys two) (drop-append-le 2 held ys two))

  whole-ends : (refused : ℕ) → 2 + body_length held ≤ length held → Ends (Frames version) held (ended (Frames version) (2 + body_length held) (record_line (in_version version asked) (body_of held)) refused)
  unfolding end_from
  whole-ends refused h =
      ends_using (omega arith)
      (λ ys.
      end_whole (held ++ ys) (omega (arith, h, length-append held ys, length_stays held ys (omega (arith, h))))
      ∙ ap frames_end (after_stays held ys h))

  frame_ends : Ends (Frames version) held (frame_step version asked held)
  frame_ends =
      cond_by E (ltb (length held) 2) (λ e. wait_ends (omega (arith, ltb-true (length held) 2 e)))
      (λ e. let two : 2 ≤ length held = ltb-false (length held) 2 e in
      cond_by E (ltb longest_body n) (λ e. long_ends two)
      (λ e.
      cond_by E (ltb (length held) (2 + n)) (λ e. wait_ends (ltb-true (length held) (2 + n) e))
      (λ e. whole-ends (refused_by (answer_of (refusals (in_version version asked) (body_of held)))) (ltb-false (length held) (2 + n) e))))
    where
      n : ℕ
      n = body_length held

      E : Taken → Type 0
      E = Ends (Frames version) held

  skip_some_ends : (left size : ℕ) → left ≤ size → length held < left → Ends (Skip left size version) held (taken (Skip (left - length held) size version) (length held) [])
  unfolding end_from
  skip_some_ends left size of h = record { keeps = keeps; last = λ z. rw (lt-ltb (length held) left h) }
    where
      n : ℕ
      n = left - length held

      keeps : (ys : List ℕ) → end_from (Skip left size version) (held ++ ys) ≡ end_from (Skip n size version) (drop (length held) held ++ ys)
      keeps ys =
          let sum : left ≡ length held + n = omega arith in
          let count : size - (length held + n) + (length held + length ys) ≡ size - n + length ys = omega (arith, of, h, sum) in
          ap (λ (k : ℕ). end_from (Skip k size version) (held ++ ys)) sum
          ∙ rw (length-append held ys, ltb_shift (length held) (length ys) n, drop-append-add held ys n, drop-length held, count)

  skip_all_ends : (left size : ℕ) → 0 < left → left ≤ length held → Ends (Skip left size version) held (ended (Frames version) left (refused_line (skipped (in_version version asked))) 1)
  unfolding end_from
  skip_all_ends left size some h =
      ends_using some
      (λ ys.
      rw (le-ltb (length (held ++ ys)) left (omega (arith, h, length-append held ys)), drop-append-le left held ys h))

pub step-ends : (asked : Asked) (stage : Stage) (held : List ℕ) → Alive stage → Ends stage held (stepped asked stage held)
unfolding stepped end_from
step-ends asked Version held alive = version_ends held
step-ends asked (Frames version) held alive = frame_ends version asked held
step-ends asked (Skip left size version) held alive =
    cond_by (Ends (Skip left size version) held) (ltb (length held) left) (λ e. skip_some_ends version asked held left size alive.1 (ltb-true (length held) left e))
    (λ e. skip_all_ends version asked held left size alive.0 (ltb-false (length held) left e))
step-ends asked Done held alive =
    record {
      keeps = λ ys. refl;
      last = λ z. ap (ending Unknown) (let none : 0 ≡ 0 + length held = omega (arith, z) in none);
    }

-- steps keep it
steps_end : {asked : Asked} {stage : Stage} {held says : List ℕ} {now : Stage} {left : List ℕ} {records refused : ℕ} (ys : List ℕ) → Alive stage → Steps asked stage held says now left records refused → (end_from stage (held ++ ys) ≡ end_from now (left ++ ys)) × Alive now
steps_end ys alive no_step = (refl, alive)
steps_end {asked} ys alive (step_more {now = now} {left = left} m) =
    let so_far = steps_end ys alive m in
    (so_far.0 ∙ (step-ends asked now left so_far.1).keeps ys, (bounded asked now left so_far.1).alive)

-- a run ends as what was still to come; and where that is cut, the bytes used are those before the frame that is cut, and those of it
-- that were used
pub record EndsAt (from : Ending) (size used : ℕ) (final : Stage) (last : Next) : Type 0 where
  pub next : last ≡ from.next
  pub place : last ≡ Cut → size + begun_of final ≡ used + from.tail

-- a pass, and what comes after it
module _ {asked : Asked} {stage : Stage} {held : List ℕ} {ended : Bool} {r : Passed Stage} {after : List ℕ} (p : Passes asked stage held ended r after) (ys : List ℕ) (alive : Alive stage) where
  left-length : length (held ++ ys) ≡ r.used + length (drop r.used held ++ ys)
  left-length =
      omega (arith, length-append held ys, length-append (drop r.used held) ys, length-drop r.used held, p.within)

  end_on : {used : ℕ} {final : Stage} {last : Next} → EndsAt (end_from r.stage (drop r.used held ++ ys)) (length (drop r.used held ++ ys)) used final last → EndsAt (end_from stage (held ++ ys)) (length (held ++ ys)) (r.used + used) final last
  end_on e =
      let same = (steps_end ys alive p.steps).0 in
      record {
        next = e.next ∙ ap (λ (x : Ending). x.next) (sym same);
        place = λ cut. omega (arith, left-length, e.place cut, ap (λ (x : Ending). x.tail) same);
      }

ends_as : (stage : Stage) {xs ys : List ℕ} {used : ℕ} {final : Stage} {last : Next} → xs ≡ ys → EndsAt (end_from stage xs) (length xs) used final last → EndsAt (end_from stage ys) (length ys) used final last
ends_as stage {used = used} {final} {last} e = subst (λ (zs : List ℕ). EndsAt (end_from stage zs) (length zs) used final last) e

ends_used : {from : Ending} {size used : ℕ} {final : Stage} {last : Next} → EndsAt from size (used + 0) final last → EndsAt from size used final last
ends_used e = record { next = e.next; place = λ cut. omega (arith, e.place cut) }

-- where it stops: the input has ended, or the version is unknown
stop_ends : (asked : Asked) (ended : Bool) (stage : Stage) (held : List ℕ) (reads : List (List ℕ)) {next : Next} → Alive stage → (ended ≡ true → reads ≡ []) → (next ≡ Read → ⊥) → Rests asked ended stage held next → EndsAt (end_from stage (held ++ join reads)) (length (held ++ join reads)) 0 stage next
unfolding end_from
stop_ends asked true stage held reads {next} alive none go_on r =
    let bare : held ≡ held ++ join reads = sym (append-nil held) ∙ ap (λ (rs : List (List ℕ)). held ++ join rs) (sym (none refl)) in
    let last = (step-ends asked stage held alive).last r.unused in
    ends_as stage bare (record {
      next = r.next_is ∙ sym (ap (λ (x : Ending). x.next) last);
      place = λ cut. omega (arith, ap (λ (x : Ending). x.tail) last);
    })
stop_ends asked false Version held reads alive none go_on r = absurd (go_on r.next_is)
stop_ends asked false (Frames version) held reads alive none go_on r = absurd (go_on r.next_is)
stop_ends asked false (Skip left size version) held reads alive none go_on r = absurd (go_on r.next_is)
stop_ends asked false Done held reads {next} alive none go_on r =
    record {
      next = r.next_is;
      place = λ cut. absurd (let same : Unknown ≡ Cut = sym r.next_is ∙ cut in let o : ◌≡◌ {A = ℕ} 0 1 = cc in omega arith);
    }

end_from_lem : {asked : Asked} {ended : Bool} {stage : Stage} {held : List ℕ} {reads : List (List ℕ)} {written : List ℕ} {records refused used : ℕ} {final : Stage} {last : Next} → Alive stage → (ended ≡ true → reads ≡ []) → Runs asked ended stage held reads written records refused used final last → EndsAt (end_from stage (held ++ join reads)) (length (held ++ join reads)) used final last
end_from_lem {reads = reads} alive none (run_full p e s) = end_on p (join reads) alive (end_from_lem p.alive none s)
end_from_lem {held = held} alive none (run_more {bytes = bytes} {reads = reads} {r = r} p e s) =
    end_on p (bytes ++ join reads) alive
    (ends_as r.stage (append_assoc (drop r.used held) bytes (join reads)) (end_from_lem p.alive (λ z. absurd (let o : ◌≡◌ {A = ℕ} 0 1 = cc in omega arith)) s))
end_from_lem alive none (run_none p e s) = end_on p [] alive (end_from_lem p.alive (λ z. refl) s)
end_from_lem {asked} {ended} {stage} {held} {reads} alive none (stop {r = r} p not_full not-read) =
    ends_used (end_on p (join reads) alive (at_rest p.follows))
  where
    at_rest : Follows asked ended r.stage (drop r.used held) r.used r.next → EndsAt (end_from r.stage (drop r.used held ++ join reads)) (length (drop r.used held ++ join reads)) 0 r.stage r.next
    at_rest (is_full e some) = absurd (not_full e)
    at_rest (rests f) = stop_ends asked ended r.stage (drop r.used held) reads p.alive none not-read f

-- For every run, over every sequence of reads: it ends as the listing does; and where that is cut, the bytes used, less those of the
-- frame that is cut, are the place of that frame's first byte.
pub run_end : (asked : Asked) {reads : List (List ℕ)} {written : List ℕ} {records refused used : ℕ} {final : Stage} {last : Next} → Runs asked false Version [] reads written records refused used final last → (last ≡ (listing_end (join reads)).next) × (last ≡ Cut → used - begun_of final ≡ length (join reads) - (listing_end (join reads)).tail)
unfolding end_from
run_end asked s =
    let e = end_from_lem tt (λ z. absurd (let o : ◌≡◌ {A = ℕ} 0 1 = cc in omega arith)) s in
    (e.next, λ cut. omega (arith, e.place cut))
