-- What stands in front of a side, whatever comes after the bytes that are held: a record, the end, or a cut.
-- Assumes nothing.
use mathlib.Core.Path.{◌≡◌, refl, ap, ◌∙◌}
use mathlib.Core.Bool.{Bool, true, false, not, ◌&&◌}
use mathlib.Core.List.{List, [], ◌∷◌, ◌++◌, append-nil}
use Prim.Native.Nat.{ℕ, ◌+◌, ◌≤◌, ◌<◌}
use native.Mathlib.Omega.{arith}
use lib.ListN.{length, drop, length-append}
use Rattle.text.specs.Words.{empty}
use Rattle.frames.specs.Frames.{body_length, is_whole, body_of, frame_size}
use Rattle.frames.proofs.FrameAt.{size_whole}
use Rattle.streams.proofs.Streaming.{all_whole, length_stays, body_stays, after_stays}
use Rattle.compared.specs.Places.{Found, front_record, is_cut}
use Rattle.compared.specs.Places.Found.{found, none}
use Rattle.compared.specs.Pass.{Comes}

-- so a record stands there, or the end; and its frame has so many bytes
pub record Front (ended : Bool) (xs : List ℕ) (f : Found) (size : ℕ) : Type 0 where
  pub uncut : (more : List ℕ) → Comes ended more → is_cut (xs ++ more) ≡ false
  pub record_there : (more : List ℕ) → Comes ended more → front_record (xs ++ more) ≡ f
  pub left : (more : List ℕ) → Comes ended more → drop (frame_size (xs ++ more)) (xs ++ more) ≡ drop size xs ++ more
  pub within : size ≤ length xs

-- a whole frame is not cut
whole_uncut : (xs : List ℕ) → is_whole xs ≡ true → is_cut xs ≡ false
whole_uncut xs e = go (empty xs) (is_whole xs) e
  where
    go : (a b : Bool) → b ≡ true → (not a && not b) ≡ false
    go true b e = refl
    go false b e = rw e

module _ (ended : Bool) (xs : List ℕ) (h : 2 + body_length xs ≤ length xs) where
  whole_longer : (more : List ℕ) → is_whole (xs ++ more) ≡ true
  whole_longer more = all_whole (xs ++ more) (omega (arith, h, length-append xs more, length_stays xs more (omega (arith, h))))

  pub front-body : Front ended xs (found (body_of xs)) (2 + body_length xs)
  front-body =
      record {
        uncut = λ more comes. whole_uncut (xs ++ more) (whole_longer more);
        record_there = λ more comes. rw (whole_longer more, body_stays xs more h);
        left =
            λ more comes.
            ap (λ (n : ℕ). drop n (xs ++ more)) (size_whole (xs ++ more) (whole_longer more)) ∙ after_stays xs more h;
        within = h;
      }

-- where a side has ended, nothing comes
pub front_end : {ended : Bool} → ended ≡ true → Front ended [] none 0
front_end e =
    record {
      uncut = λ more comes. rw (comes e);
      record_there = λ more comes. rw (comes e);
      left = λ more comes. rw (comes e);
      within = omega arith;
    }

-- bytes that are too few for a frame are cut there
pub cut_stays : {ended : Bool} (xs : List ℕ) → ended ≡ true → 0 < length xs → is_whole xs ≡ false → (more : List ℕ) → Comes ended more → is_cut (xs ++ more) ≡ true
cut_stays [] e some part more comes = absurd (omega (arith, some))
cut_stays (x ∷ xs) e some part more comes =
    ap is_cut (ap (λ (m : List ℕ). (x ∷ xs) ++ m) (comes e) ∙ append-nil (x ∷ xs)) ∙ ap (λ (b : Bool). not b) part
