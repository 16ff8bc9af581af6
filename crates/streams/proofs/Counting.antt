-- The counts of a whole run are those of the listing's whole frames.
-- Assumes nothing.
use mathlib.Core.Path.{◌≡◌, refl, sym, ap, ap₂, ◌∙◌}
use mathlib.Core.Bool.{Bool, true, false, cond}
use mathlib.Core.List.{List, [], ◌∷◌, ◌++◌}
use Prim.Native.Nat.{ℕ, zero, suc, ◌+◌, ◌-◌, ◌≤◌, ◌<◌}
use native.Mathlib.Nat.{not-suc-le-zero}
use native.Mathlib.Omega.{arith}
use lib.Dec.{ltb, lit≤}
use lib.ListN.{length, drop, length-append, length-drop}
use lib.Seq.{drop-length, length-take-le, drop-append-le, drop-append-add, drop-drop}
use borrow.Author.Tests.{ne_eqb, lt-ltb, le-ltb, ltb-true, ltb-false}
use Rattle.text.proofs.Choosing.{cond_by}
use Rattle.answers.specs.Refusals.{answer_of}
use Rattle.answers.specs.Lines.{refused_line}
use Rattle.frames.specs.Frames.{body_length, is_whole, body_of, frame_size, known_version}
use Rattle.frames.proofs.FrameAt.{size_whole}
use Rattle.bodies.specs.Refusals.{longest_body}
use Rattle.bodies.specs.WellFormed.{Bytes}
use Rattle.records.specs.declared.Asked.{Asked}
use Rattle.records.specs.Records.{in_version, refusals}
use Rattle.records.specs.Lines.{record_line}
use Rattle.listings.specs.Lines.{version_line}
use Rattle.streams.specs.Stream.{Taken, taken, ended, refused_by, skipped, version_step, frame_step, stepped, Alive}
use Rattle.streams.specs.Counts.{sum_within, sum_of, listing_sum}
use Rattle.streams.specs.declared.Stage.{Stage}
use Rattle.streams.specs.declared.Stage.TheVariants.{Version, Frames, Skip, Done}
use Rattle.listings.proofs.LineLaws.{frame_some}
use Rattle.streams.proofs.Stepping.{skipped_some}
use Rattle.streams.proofs.Streaming.{bytes-body, long_answer, part_cut, all_whole, length_stays, body_stays, after_stays, ltb_shift}

module _ (f : List ℕ → ℕ) where
  sum_none : (k : ℕ) → sum_within f k [] ≡ 0
  unfolding sum_within
  sum_none zero = refl
  sum_none (suc k) = refl

  -- it does not matter how many frames are allowed for, if there are enough
  sum_any : (k j : ℕ) (xs : List ℕ) → length xs ≤ k → length xs ≤ j → sum_within f k xs ≡ sum_within f j xs
  unfolding sum_within
  sum_any zero j [] h l = sym (sum_none j)
  sum_any (suc k) j [] h l = sym (sum_none j)
  sum_any zero j (x ∷ xs) h l = absurd (not-suc-le-zero h)
  sum_any (suc k) zero (x ∷ xs) h l = absurd (not-suc-le-zero l)
  sum_any (suc k) (suc j) (x ∷ xs) h l =
      let ys = x ∷ xs in
      let some : 0 < frame_size ys = frame_some ys (omega arith) in
      let left : length (drop (frame_size ys) ys) ≡ length ys - frame_size ys = length-drop (frame_size ys) ys in
      ap (λ (n : ℕ). cond (is_whole ys) (f (body_of ys) + n) 0)
      (sum_any k j (drop (frame_size ys) ys) (omega (arith, left, some)) (omega (arith, left, some)))

  -- part of a frame counts nothing
  pub sum-part : (xs : List ℕ) → is_whole xs ≡ false → sum_of f xs ≡ 0
  unfolding sum_of sum_within
  sum-part [] e = refl
  sum-part (x ∷ xs) e = rw e

  -- a whole frame, and what comes after it
  pub sum_whole : (xs : List ℕ) → 2 + body_length xs ≤ length xs → sum_of f xs ≡ f (body_of xs) + sum_of f (drop (2 + body_length xs) xs)
  unfolding sum_of sum_within
  sum_whole [] h = absurd (omega (arith, h))
  sum_whole (x ∷ xs) h =
      let ys = x ∷ xs in
      let size = size_whole ys (all_whole ys h) in
      let left : length (drop (frame_size ys) ys) ≡ length ys - frame_size ys = length-drop (frame_size ys) ys in
      ap (λ (b : Bool). cond b (f (body_of ys) + sum_within f (length xs) (drop (frame_size ys) ys)) 0) (all_whole ys h)
      ∙ ap (λ (n : ℕ). f (body_of ys) + n)
      (sum_any (length xs) (length (drop (frame_size ys) ys)) (drop (frame_size ys) ys) (omega (arith, left, size)) (omega arith)
      ∙ ap (λ (n : ℕ). sum_within f (length (drop n ys)) (drop n ys)) size)

-- what is still to be counted from a stage on
unfoldable pub to_count : (ℕ → List ℕ → ℕ) → Stage → List ℕ → ℕ
to_count f Version xs = listing_sum f xs
to_count f (Frames version) xs = sum_of (f version) xs
to_count f (Skip left size version) xs = cond (ltb (length xs) left) 0 (1 + sum_of (f version) (drop left xs))
to_count f Done xs = 0

-- A count of steps `g` that goes with a number of bodies `f`, in a version.
pub record Counts (asked : Asked) (f : ℕ → List ℕ → ℕ) (g : Taken → ℕ) : Type 0 where
  pub silent : (s : Stage) (u : ℕ) (w : List ℕ) → g (taken s u w) ≡ 0
  pub whole : (version u : ℕ) (w body : List ℕ) → g (ended (Frames version) u w (refused_by (answer_of (refusals (in_version version asked) body)))) ≡ f version body
  pub long_whole : (version u : ℕ) (w : List ℕ) → g (ended (Frames version) u w 1) ≡ 1
  pub long : (version : ℕ) (body : List ℕ) → longest_body < length body → Bytes body → f version body ≡ 1

-- what a step keeps of what is still to be counted, and that nothing is where it uses nothing
pub record Keeps (f : ℕ → List ℕ → ℕ) (g : Taken → ℕ) (stage : Stage) (held : List ℕ) (t : Taken) : Type 0 where
  pub keeps : (ys : List ℕ) → Bytes (held ++ ys) → to_count f stage (held ++ ys) ≡ g t + to_count f t.stage (drop t.used held ++ ys)
  pub ends : t.used ≡ 0 → to_count f stage held ≡ 0

quiet : {n m : ℕ} → n ≡ 0 → m ≡ n + m
quiet e = omega (arith, e)

module _ {asked : Asked} {f : ℕ → List ℕ → ℕ} {g : Taken → ℕ} (counts : Counts asked f g) where
  sum_skip : (version : ℕ) (xs : List ℕ) (size : ℕ) → Bytes xs → 2 ≤ length xs → longest_body < body_length xs → sum_of (f version) xs ≡ to_count f (Skip (body_length xs) size version) (drop 2 xs)
  unfolding to_count
  sum_skip version xs size small two long = cond_by (λ (t : ℕ). sum_of (f version) xs ≡ t) (ltb (length (drop 2 xs)) n) part whole
    where
      n : ℕ
      n = body_length xs

      part : ltb (length (drop 2 xs)) n ≡ true → sum_of (f version) xs ≡ 0
      part e = sum-part (f version) xs (part_cut xs (omega (arith, ltb-true (length (drop 2 xs)) n e, length-drop 2 xs)))

      whole : ltb (length (drop 2 xs)) n ≡ false → sum_of (f version) xs ≡ 1 + sum_of (f version) (drop n (drop 2 xs))
      whole e =
          let fits : n ≤ length (drop 2 xs) = ltb-false (length (drop 2 xs)) n e in
          let sized : length (body_of xs) ≡ n = length-take-le n (drop 2 xs) fits in
          sum_whole (f version) xs (omega (arith, length-drop 2 xs))
          ∙ ap₂ (λ (a b : ℕ). a + b) (counts.long version (body_of xs) (omega arith) (bytes-body xs small)) (ap (sum_of (f version)) (sym (drop-drop n 2 xs)))

  keeps_using : {stage : Stage} {held : List ℕ} {t : Taken} → 0 < t.used → ((ys : List ℕ) → Bytes (held ++ ys) → to_count f stage (held ++ ys) ≡ g t + to_count f t.stage (drop t.used held ++ ys)) → Keeps f g stage held t
  keeps_using some keeps = record { keeps = keeps; ends = λ z. absurd (omega arith) }

  version_keeps : (held : List ℕ) → Keeps f g Version held (version_step held)
  unfolding to_count listing_sum
  version_keeps [] = record { keeps = λ ys small. quiet (counts.silent Version 0 []); ends = λ z. refl }
  version_keeps (x ∷ xs) =
      cond_by (Keeps f g Version (x ∷ xs)) (known_version x) (λ e. keeps_using (lit≤ tt) (λ ys small. rw e (quiet (counts.silent (Frames x) 1 []))))
      (λ e. keeps_using (lit≤ tt) (λ ys small. rw e (quiet (counts.silent Done 1 version_line))))

  module _ (version : ℕ) (held : List ℕ) where
    wait_keeps : length held < 2 + body_length held → Keeps f g (Frames version) held (taken (Frames version) 0 [])
    unfolding to_count
    wait_keeps h =
        record { keeps = λ ys small. quiet (counts.silent (Frames version) 0 []); ends = λ z. sum-part (f version) held (part_cut held h) }

    long_keeps : 2 ≤ length held → longest_body < body_length held → Keeps f g (Frames version) held (taken (Skip (body_length held) (2 + body_length held) version) 2 [])
    unfolding to_count
    long_keeps two long = keeps_using (lit≤ tt) keeps
      where
        size : ℕ
        size = 2 + body_length held

        keeps : (ys : List ℕ) → Bytes (held ++ ys) → sum_of (f version) (held ++ ys) ≡ g (taken (Skip (body_length held) size version) 2 []) + to_count f (Skip (body_length held) size version) (drop 2 held ++ ys)
        keeps ys small =
            let same = length_stays held ys two in
            sum_skip version (held ++ ys) size small (omega (arith, length-append held ys)) (omega arith)
            ∙ ap₂ (λ (n : ℕ) (zs : List ℕ). to_count f (Skip n size version) zs) same (drop-append-le 2 held ys two)
            ∙ quiet (counts.silent (Skip (body_length held) size version) 2 [])

    whole_keeps : 2 + body_length held ≤ length held → Keeps f g (Frames version) held (ended (Frames version) (2 + body_length held) (record_line (in_version version asked) (body_of held)) (refused_by (answer_of (refusals (in_version version asked) (body_of held)))))
    unfolding to_count
    whole_keeps h =
        keeps_using (omega arith)
        (λ ys small.
        sum_whole (f version) (held ++ ys) (omega (arith, length-append held ys, length_stays held ys (omega arith)))
        ∙ ap₂ (λ (b zs : List ℕ). f version b + sum_of (f version) zs) (body_stays held ys h) (after_stays held ys h)
        ∙ ap (λ (n : ℕ). n + sum_of (f version) (drop (2 + body_length held) held ++ ys)) (sym (counts.whole version (2 + body_length held) (record_line (in_version version asked) (body_of held)) (body_of held))))

    frame_keeps : Keeps f g (Frames version) held (frame_step version asked held)
    frame_keeps =
        cond_by K (ltb (length held) 2) (λ e. wait_keeps (omega (arith, ltb-true (length held) 2 e)))
        (λ e. let two : 2 ≤ length held = ltb-false (length held) 2 e in
        cond_by K (ltb longest_body n) (λ e. long_keeps two (ltb-true longest_body n e))
        (λ e.
        cond_by K (ltb (length held) (2 + n)) (λ e. wait_keeps (ltb-true (length held) (2 + n) e))
        (λ e. whole_keeps (ltb-false (length held) (2 + n) e))))
      where
        n : ℕ
        n = body_length held

        K : Taken → Type 0
        K = Keeps f g (Frames version) held

    skip_some_keeps : (left size : ℕ) → length held < left → Keeps f g (Skip left size version) held (taken (Skip (left - length held) size version) (length held) [])
    unfolding to_count
    skip_some_keeps left size h = record { keeps = keeps; ends = λ z. rw (lt-ltb (length held) left h) }
      where
        n : ℕ
        n = left - length held

        keeps : (ys : List ℕ) → Bytes (held ++ ys) → to_count f (Skip left size version) (held ++ ys) ≡ g (taken (Skip n size version) (length held) []) + to_count f (Skip n size version) (drop (length held) held ++ ys)
        keeps ys small =
            let sum : left ≡ length held + n = omega arith in
            let moved : to_count f (Skip (length held + n) size version) (held ++ ys) ≡ to_count f (Skip n size version) (drop (length held) held ++ ys) =
            rw (length-append held ys, ltb_shift (length held) (length ys) n, drop-append-add held ys n, drop-length held) in
            ap (λ (k : ℕ). to_count f (Skip k size version) (held ++ ys)) sum
            ∙ moved
            ∙ quiet (counts.silent (Skip n size version) (length held) [])

    skip_all_keeps : (left size : ℕ) → 0 < left → left ≤ length held → Keeps f g (Skip left size version) held (ended (Frames version) left (refused_line (skipped (in_version version asked))) 1)
    unfolding to_count
    skip_all_keeps left size some h =
        keeps_using some
        (λ ys small.
        rw (
          le-ltb (length (held ++ ys)) left (omega (arith, length-append held ys)),
          drop-append-le left held ys h,
          counts.long_whole version left (refused_line (skipped (in_version version asked))),
        ))

  pub step_keeps : (stage : Stage) (held : List ℕ) → Alive stage → Keeps f g stage held (stepped asked stage held)
  unfolding stepped to_count
  step_keeps Version held alive = version_keeps held
  step_keeps (Frames version) held alive = frame_keeps version held
  step_keeps (Skip left size version) held alive =
      cond_by (Keeps f g (Skip left size version) held) (ltb (length held) left) (λ e. skip_some_keeps version held left size (ltb-true (length held) left e))
      (λ e. skip_all_keeps version held left size alive.0 (ltb-false (length held) left e))
  step_keeps Done held alive =
      record { keeps = λ ys small. quiet (counts.silent Done (length held) []); ends = λ z. refl }

-- a longer body than any that is right is refused
long_counted : (asked : Asked) (body : List ℕ) → longest_body < length body → Bytes body → refused_by (answer_of (refusals asked body)) ≡ 1
long_counted asked body long small =
    rw (long_answer asked body long small, ne_eqb (skipped asked) 0 (λ z. omega (arith, z, skipped_some asked)))

-- the two counts of a run
pub records_counted : (asked : Asked) → Counts asked (λ (version : ℕ) (body : List ℕ). 1) (λ (t : Taken). t.records)
records_counted asked =
    record {
      silent = λ s u w. refl;
      whole = λ version u w body. refl;
      long_whole = λ version u w. refl;
      long = λ version body long small. refl;
    }

pub refused_counted : (asked : Asked) → Counts asked (λ (version : ℕ) (body : List ℕ). refused_by (answer_of (refusals (in_version version asked) body))) (λ (t : Taken). t.refused)
refused_counted asked =
    record {
      silent = λ s u w. refl;
      whole = λ version u w body. refl;
      long_whole = λ version u w. refl;
      long = λ version body long small. long_counted (in_version version asked) body long small;
    }
