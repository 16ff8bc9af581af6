-- What contracts inside the printer speak of, and no promise: the general path as the code makes it.
-- Assumes nothing.
use Rattle.std.specs.Prelude.{Bool, cond, not, ◌&&◌, ◌||◌, [], ◌∷◌, ℕ}
use Rattle.operands.specs.declared.Instruction.{Instruction}
use Rattle.places.specs.declared.Segment.TheVariants.{Shown as Own, UnlessDs}
use Rattle.places.specs.declared.Plan.{Plan}
use Rattle.names.specs.Among.{is_arm, is_one_of}
use Rattle.names.specs.declared.Arm.{Arm}
use Rattle.names.specs.declared.Arm.TheVariants.{Qword, Mmword, Jmpf, Callf, Lds, Movs}
use Rattle.arms.specs.Tests.{has_vector}
use Rattle.arms.specs.Labels.{general_label}
use Rattle.arms.specs.Plans.{spread}

-- the general path by the arm, as the code makes it: 6 is `fword` in operand 0 of JMPF and CALLF and after operand 0 of LDS, LES, LFS,
-- LGS, and ds is not shown after operand 0 of MOVS
unfoldable pub general_by : Arm → (mmword : Bool) → ℕ → Plan
general_by arm mmword size =
    spread (general_label mmword (is_one_of arm (Jmpf ∷ Callf ∷ [])) size) (general_label mmword (is_arm arm Lds) size) (cond (is_arm arm Movs) UnlessDs Own)

-- document 000's `size_is_mmword`: never for some opcodes, always for some, and for every other by its registers
abbrev pub mmword_for : Arm → Instruction → Bool
mmword_for arm i = not (is_arm arm Qword) && (is_arm arm Mmword || has_vector i)
