-- Where 8 is `mmword` in the general path: the code asks at the size 8 alone.
-- Assumes nothing.
use mathlib.Core.Path.{◌≡◌}
use mathlib.Core.Bool.{Bool, ◌&&◌, and_self_left}
use mathlib.Core.List.{[], ◌∷◌}
use Prim.Native.Nat.{ℕ}
use lib.Dec.{eqb}
use Rattle.names.specs.Among.{is_arm, is_one_of}
use Rattle.names.specs.declared.Arm.{Arm}
use Rattle.names.specs.declared.Arm.TheVariants.{Jmpf, Callf, Lds}
use Rattle.arms.specs.Labels.{general_label}
use Rattle.arms.specs.Code.{general_by}

-- vector registers are asked for at the size 8 alone
pub label_at_8 : (mmword fword : Bool) (size : ℕ) → general_label (eqb size 8 && mmword) fword size ≡ general_label mmword fword size
unfolding general_label
label_at_8 mmword fword size = rw (and_self_left (eqb size 8) mmword)

pub general_at_8 : (arm : Arm) (mmword : Bool) (size : ℕ) → general_by arm (eqb size 8 && mmword) size ≡ general_by arm mmword size
unfolding general_by
general_at_8 arm mmword size = rw (label_at_8 mmword (is_one_of arm (Jmpf ∷ Callf ∷ [])) size, label_at_8 mmword (is_arm arm Lds) size)
