-- What a test that is known says of its parts, and what holds of a value that a test picks.
-- Assumes nothing.
use mathlib.Core.Bool.{Bool, true, false, not, cond, ◌&&◌, ◌||◌}
use mathlib.Core.Logic.{◌⊎◌, inl, inr}
use mathlib.Core.Path.{◌≡◌, refl}

pub neither_left : (s t : Bool) → (s || t) ≡ false → s ≡ false
neither_left true t e = e
neither_left false t e = refl

pub neither_right : (s t : Bool) → (s || t) ≡ false → t ≡ false
neither_right true t e = cc
neither_right false t e = e

pub both_left : (s t : Bool) → (s && t) ≡ true → s ≡ true
both_left true t e = refl
both_left false t e = e

pub both_right : (s t : Bool) → (s && t) ≡ true → t ≡ true
both_right true t e = e
both_right false t e = cc

pub either : (s t : Bool) → (s || t) ≡ true → (s ≡ true) ⊎ (t ≡ true)
either true t e = inl refl
either false t e = inr e

-- one of two holds, and it is not the second
pub either_left : (s t : Bool) → (s || t) ≡ true → t ≡ false → s ≡ true
either_left true t e n = refl
either_left false t e n = cc

-- "s and not t" fails, and s holds
pub then_kept : (s t : Bool) → (s && not t) ≡ false → s ≡ true → t ≡ true
then_kept true true e h = refl
then_kept true false e h = cc
then_kept false t e h = cc

-- what holds on either side of a test
pub picked : {A : Type 0} (P : A → Type 0) (t : Bool) (x y : A) → (t ≡ true → P x) → (t ≡ false → P y) → P (cond t x y)
picked P true x y f g = f refl
picked P false x y f g = g refl
