-- A signed number of 32 bits in a type of 64: it stays itself, and so does its size, the least number's too.
-- Assumes nothing.
use mathlib.Core.Path.{◌≡◌, refl}
use mathlib.Core.Bool.{true, false, true≢false}
use Prim.Native.Nat.{zero, suc}
use native.Mathlib.Nat.{zero-add, not-suc-le-zero}
use native.Mathlib.Omega.{arith}
use borrow.Author.Tests.{ltb-true, lt-ltb}
use lib.Dec.{T, lit<}
use lib.IntN.{ℤ, pos, negsuc, nat_abs, ◌-ℤ◌}
use lib.Signed.{lt_z, non_neg}
use mir.Syntax.{w32, w64}
use mir.Val.{Fits, SFits, to_z, of_z}
use mir.ValLaws.{to_z-of_z}
use Rattle.text.specs.Words.{bytes}
use Rattle.numerals.specs.Numerals.{sign}

pub wider : (d : ℤ) → SFits w32 d → SFits w64 d
wider (pos n) f = record { sfits = omega (arith, f.sfits) }
wider (negsuc n) f = record { sfits = omega (arith, f.sfits) }

pub widened : (d : ℤ) → SFits w32 d → to_z w64 (of_z w64 d) ≡ d
widened d f = to_z-of_z w64 d (wider d f)

-- the opposite of such a number fits 64 bits; the least one's does not fit 32
pub opposite_fits : (d : ℤ) → SFits w32 d → SFits w64 (pos 0 -ℤ to_z w64 (of_z w64 d))
opposite_fits d f = rw (widened d f) (from d f)
  where
    from : (d : ℤ) → SFits w32 d → SFits w64 (pos 0 -ℤ d)
    from (pos zero) f = record { sfits = lit< tt }
    from (pos (suc n)) f = record { sfits = rw (lt-ltb 0 (suc n) (omega arith)) (omega (arith, f.sfits)) }
    from (negsuc n) f = record { sfits = omega (arith, f.sfits) }

-- what the size of a number d below 0 is taken from, its opposite
pub record Opposite (d : ℤ) : Type 0 where
  pub positive : T (non_neg (pos 0 -ℤ d))
  pub size : nat_abs (pos 0 -ℤ d) ≡ nat_abs d
  pub small : Fits w32 (nat_abs (pos 0 -ℤ d))

pub opposite : (d : ℤ) → SFits w32 d → lt_z d (pos 0) ≡ true → Opposite d
opposite (pos n) f h = absurd (not-suc-le-zero (ltb-true n 0 h))
opposite (negsuc n) f h =
    record { positive = tt; size = zero-add (suc n); small = record { fits = omega (arith, f.sfits) } }

-- a number that is not below 0 is its own size
pub record Straight (d : ℤ) : Type 0 where
  pub positive : T (non_neg d)
  pub small : Fits w32 (nat_abs d)

pub straight : (d : ℤ) → SFits w32 d → lt_z d (pos 0) ≡ false → Straight d
straight (pos n) f h = record { positive = tt; small = record { fits = omega (arith, f.sfits) } }
straight (negsuc n) f h = absurd (true≢false h)

pub sign_minus : (d : ℤ) → lt_z d (pos 0) ≡ true → sign d ≡ bytes "- "
sign_minus (pos n) h = absurd (not-suc-le-zero (ltb-true n 0 h))
sign_minus (negsuc n) h = refl

pub sign-plus : (d : ℤ) → lt_z d (pos 0) ≡ false → sign d ≡ bytes "+ "
sign-plus (pos n) h = refl
sign-plus (negsuc n) h = absurd (true≢false h)
