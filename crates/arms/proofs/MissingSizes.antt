-- Which sizes lack a label, of each kind of label that an arm calls for.
-- Assumes nothing.
use mathlib.Core.Path.{◌≡◌, refl}
use mathlib.Core.Bool.{Bool, not, ◌&&◌, ◌||◌}
use Prim.Native.Nat.{ℕ}
use lib.Dec.{eqb}
use native.Mathlib.Omega.{arith}
use Rattle.operands.specs.declared.Label.{Label}
use Rattle.operands.specs.declared.Label.TheVariants as label
use Rattle.places.specs.Labels.{label_number}
use Rattle.arms.specs.Labels.{size_label, general_label, lss_label, tbyte_label}
use Rattle.arms.specs.Size.{has_label}
use Rattle.arms.specs.Missing.{is_missing}

-- of all labels the one that is missing has that label's number
pub number_of_missing : (l : Label) → eqb (label_number l) (label_number label.Missing) ≡ is_missing l
number_of_missing label.None = refl
number_of_missing label.Byte = refl
number_of_missing label.Word = refl
number_of_missing label.Dword = refl
number_of_missing label.Qword = refl
number_of_missing label.Xmmword = refl
number_of_missing label.Ymmword = refl
number_of_missing label.Zmmword = refl
number_of_missing label.Mmword = refl
number_of_missing label.Fword = refl
number_of_missing label.Tbyte = refl
number_of_missing label.Missing = refl

pub missing_by_size : (size : ℕ) → is_missing (size_label size) ≡ not (has_label size)
unfolding size_label
missing_by_size size = grind arith

pub missing_with_tbyte : (size : ℕ) → is_missing (tbyte_label size) ≡ not (has_label size || eqb size 10)
unfolding tbyte_label size_label
missing_with_tbyte size = grind arith

pub missing_for_lss : (size : ℕ) → is_missing (lss_label size) ≡ not (eqb size 4 || eqb size 6)
unfolding lss_label
missing_for_lss size = grind arith

pub missing_in_general_path :
    (mmword fword : Bool) (size : ℕ) →
    is_missing (general_label mmword fword size) ≡ (not (eqb size 63 || eqb size 48) && not (has_label size || eqb size 6 && fword))
unfolding general_label size_label
missing_in_general_path mmword fword size = grind arith
