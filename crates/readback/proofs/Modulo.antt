-- The reader wraps integers as the meaning does.
-- Assumes nothing.
use mathlib.Core.Path.{◌≡◌, refl}
use lib.IntN.{ℤ, pos, negsuc}
use Rattle.masm.specs.Operands.{wrapped}
use Rattle.branches.specs.Sums.{modulo}

pub wrapped-modulo : (z : ℤ) → wrapped z ≡ modulo z
wrapped-modulo (pos n) = refl
wrapped-modulo (negsuc n) = refl
