-- What stands at a place, case by case.
-- Assumes nothing.
use Rattle.std.specs.Prelude.{◌≡◌, ℕ, ◌+◌, ◌-◌, ◌<◌, ◌≤◌, Bool, true, false, cond, leb, List, length, drop}
use mathlib.Core.Path.{refl}
use native.Mathlib.Omega.{arith}
use borrow.Author.Tests.{le-leb, lt-leb, leb-true, leb-false}
use Rattle.frames.specs.Numbers.{word}
use Rattle.frames.specs.Frames.{is_whole, body_length}
use Rattle.frames.proofs.FrameAt.{WholeAt, whole_at}
use Rattle.frames.proofs.FrameAt as frame
use Rattle.cursors.specs.Code.{at_end, unfinished, stands_at, Sees}
use Rattle.cursors.specs.Longest.{longest_frame}
use Rattle.cursors.specs.declared.Stands.{Stands}
use Rattle.cursors.specs.declared.Stands.TheVariants.{Body, End, Cut, More}

module _ (xs : List ℕ) (at : ℕ) (ended : Bool) where
  -- no bytes are left
  pub sees_none : {s : Stands} → length xs ≤ at → s ≡ at_end ended → Sees xs at ended s
  sees_none h e = record { there = rw (le-leb (length xs) at h) e; few = λ more. omega (arith, h) }

  -- fewer than a frame has
  pub sees_part : {s : Stands} → at < length xs → is_whole (drop at xs) ≡ false → length xs - at < longest_frame → s ≡ unfinished ended → Sees xs at ended s
  sees_part h part few e = record { there = rw (lt-leb (length xs) at h, part) e; few = λ more. few }

  -- a whole frame
  pub sees_whole : {n : ℕ} → at < length xs → n ≡ word xs at → 2 ≤ length xs - at → n ≤ length xs - at - 2 → Sees xs at ended (Body (at + 2) (at + 2 + n))
  sees_whole {n} h e few fits =
      let w = whole_at xs at (omega (arith, h)) (frame.whole-there xs at e few fits) in
      record {
        there = rw (lt-leb (length xs) at h, w.whole, ← w.to);
        few = λ more. absurd cc;
      }

-- what is known of a place by what stands there
data Standing (xs : List ℕ) (at : ℕ) (ended : Bool) (s : Stands) : Type 0 where
  is_body : {start end : ℕ} → WholeAt xs at start end → s ≡ Body start end → Standing xs at ended s
  is_end : ended ≡ true → length xs ≤ at → s ≡ End → Standing xs at ended s
  is_cut : ended ≡ true → at < length xs → is_whole (drop at xs) ≡ false → s ≡ Cut → Standing xs at ended s
  is_more : ended ≡ false → s ≡ More → Standing xs at ended s

module _ (xs : List ℕ) (at : ℕ) where
  standing : (ended : Bool) → Standing xs at ended (stands_at xs at ended)
  standing ended = go ended (leb (length xs) at) (is_whole (drop at xs)) refl refl
    where
      go : (ended a b : Bool) → leb (length xs) at ≡ a → is_whole (drop at xs) ≡ b → Standing xs at ended (cond a (at_end ended) (cond b (Body (at + 2) (at + 2 + body_length (drop at xs))) (unfinished ended)))
      go true true b l w = is_end refl (leb-true (length xs) at l) refl
      go false true b l w = is_more refl refl
      go ended false true l w = is_body {start = at + 2} {end = at + 2 + body_length (drop at xs)} (whole_at xs at (omega (arith, leb-false (length xs) at l)) (rw w)) refl
      go true false false l w = is_cut refl (leb-false (length xs) at l) w refl
      go false false false l w = is_more refl refl

  module _ (ended : Bool) where
    pub body_stands : {start end : ℕ} → Body start end ≡ stands_at xs at ended → WholeAt xs at start end
    body_stands {start} {end} e = go (standing ended)
      where
        go : Standing xs at ended (stands_at xs at ended) → WholeAt xs at start end
        go (is_body {start = a} {end = b} w f) = let x : start ≡ a = cc in let y : end ≡ b = cc in rw (x, y) w
        go (is_end o l f) = absurd cc
        go (is_cut o l n f) = absurd cc
        go (is_more o f) = absurd cc

    pub end_stands : End ≡ stands_at xs at ended → (ended ≡ true) × (length xs ≤ at)
    end_stands e = go (standing ended)
      where
        go : Standing xs at ended (stands_at xs at ended) → (ended ≡ true) × (length xs ≤ at)
        go (is_body w f) = absurd cc
        go (is_end o l f) = (o, l)
        go (is_cut o l n f) = absurd cc
        go (is_more o f) = absurd cc

    pub cut_stands : Cut ≡ stands_at xs at ended → (ended ≡ true) × ((at < length xs) × (is_whole (drop at xs) ≡ false))
    cut_stands e = go (standing ended)
      where
        go : Standing xs at ended (stands_at xs at ended) → (ended ≡ true) × ((at < length xs) × (is_whole (drop at xs) ≡ false))
        go (is_body w f) = absurd cc
        go (is_end o l f) = absurd cc
        go (is_cut o l n f) = (o, (l, n))
        go (is_more o f) = absurd cc

    pub more_stands : More ≡ stands_at xs at ended → ended ≡ false
    more_stands e = go (standing ended)
      where
        go : Standing xs at ended (stands_at xs at ended) → ended ≡ false
        go (is_body w f) = absurd cc
        go (is_end o l f) = absurd cc
        go (is_cut o l n f) = absurd cc
        go (is_more o f) = o
