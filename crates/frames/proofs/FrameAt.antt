-- What stands at a place of a listing: the cases of `frame_at`, and where its body lies.
-- Assumes nothing.
use mathlib.Core.Path.{◌≡◌, refl, sym, ap}
use mathlib.Core.Bool.{Bool, true, false, ◌&&◌, cond}
use mathlib.Core.List.{List}
use Rattle.std.specs.Prelude.{Some, None}
use Prim.Native.Nat.{ℕ, ◌+◌, ◌-◌, ◌≤◌, ◌<◌}
use native.Mathlib.Nat.{add-zero}
use native.Mathlib.Omega.{arith}
use lib.Dec.{leb}
use lib.ListN.{length, take, drop, length-drop}
use lib.Seq.{get_or-drop, drop-drop}
use borrow.Author.Tests.{le-leb, lt-leb, leb-true}
use Rattle.std.specs.Prelude.{Option}
use Rattle.frames.specs.Numbers.{word}
use Rattle.frames.specs.Frames.{body_length, is_whole, body_of, frame_size}
use Rattle.frames.specs.Code.{frame, frame_at}
use Rattle.frames.specs.declared.Frame.{Frame}

-- the length that stands at a place
pub word-drop : (xs : List ℕ) (at : ℕ) → word (drop at xs) 0 ≡ word xs at
word-drop xs at = rw (get_or-drop at xs 0 0, get_or-drop at xs (0 + 1) 0, add-zero)

module _ (xs : List ℕ) (at : ℕ) where
  -- too few bytes for a length, too few for a body, enough
  pub cut_few : length xs - at < 2 → frame_at xs at ≡ None
  cut_few h = rw (lt-leb 2 (length (drop at xs)) (rw length-drop h))

  pub cut_short : {n : ℕ} → n ≡ word xs at → length xs - at - 2 < n → frame_at xs at ≡ None
  cut_short {n} e h =
      let short : length (drop at xs) < 2 + body_length (drop at xs) = rw (length-drop, word-drop xs at, ← e) (omega arith) in
      picked (leb 2 (length (drop at xs))) (Some (frame (at + 2) (at + 2 + body_length (drop at xs)))) (lt-leb (2 + body_length (drop at xs)) (length (drop at xs)) short)
    where
      picked : (a : Bool) {b : Bool} (f : Option Frame) → b ≡ false → cond (a && b) f None ≡ None
      picked true f e = rw e
      picked false f e = refl

  pub whole-there : {n : ℕ} → n ≡ word xs at → 2 ≤ length xs - at → n ≤ length xs - at - 2 → frame_at xs at ≡ Some (frame (at + 2) (at + 2 + n))
  whole-there {n} e h l =
      rw (
        le-leb 2 (length (drop at xs)) (rw length-drop h),
        word-drop xs at,
        ← e,
        le-leb (2 + n) (length (drop at xs)) (rw length-drop (omega arith)),
      )

-- what is known where a whole frame was found
pub record WholeAt (xs : List ℕ) (at start end : ℕ) : Type 0 where
  pub whole : is_whole (drop at xs) ≡ true
  pub from : start ≡ at + 2
  pub to : end ≡ at + 2 + body_length (drop at xs)
  pub within : end ≤ length xs
  pub body : take (end - start) (drop start xs) ≡ body_of (drop at xs)

both_true : (a b : Bool) → (a && b) ≡ true → (a ≡ true) × (b ≡ true)
both_true true b e = (refl, e)
both_true false b e = (cc, cc)

pub whole_at : (xs : List ℕ) (at : ℕ) {start end : ℕ} → at ≤ length xs → frame_at xs at ≡ Some (frame start end) → WholeAt xs at start end
whole_at xs at {start} {end} placed e = go (is_whole (drop at xs)) refl e
  where
    go : (b : Bool) → is_whole (drop at xs) ≡ b → cond b (Some (frame (at + 2) (at + 2 + body_length (drop at xs)))) None ≡ Some (frame start end) → WholeAt xs at start end
    go false w e = absurd cc
    go true w e =
        let found : frame (at + 2) (at + 2 + body_length (drop at xs)) ≡ frame start end = cc in
        let from : start ≡ at + 2 = sym (ap (λ (f : Frame). f.start) found) in
        let to : end ≡ at + 2 + body_length (drop at xs) = sym (ap (λ (f : Frame). f.end) found) in
        let size : end - start ≡ body_length (drop at xs) = omega (arith, from, to) in
        let fits = both_true (leb 2 (length (drop at xs))) (leb (2 + body_length (drop at xs)) (length (drop at xs))) w in
        record {
          whole = w;
          from = from;
          to = to;
          within =
              omega (arith, to, leb-true (2 + body_length (drop at xs)) (length (drop at xs)) fits.1, length-drop at xs);
          body = rw (size, from, ← (drop-drop 2 at xs));
        }

pub cut_at : (xs : List ℕ) (at : ℕ) → frame_at xs at ≡ None → is_whole (drop at xs) ≡ false
cut_at xs at e = go (is_whole (drop at xs)) e
  where
    go : (b : Bool) → cond b (Some (frame (at + 2) (at + 2 + body_length (drop at xs)))) None ≡ None → b ≡ false
    go false e = refl
    go true e = cc

-- the frame's size, by case
pub size_whole : (xs : List ℕ) → is_whole xs ≡ true → frame_size xs ≡ 2 + body_length xs
size_whole xs e = rw e

pub size_cut : (xs : List ℕ) → is_whole xs ≡ false → frame_size xs ≡ length xs
size_cut xs e = rw e
