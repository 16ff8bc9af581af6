-- Answer 4: "Shape is refused exactly where", in document 01's order. An operand at or past the count is `Absent`.
-- Assumes nothing.
use Rattle.std.specs.Prelude.{Bool, not, ◌&&◌, ◌||◌, [], ◌∷◌, eqb}
use Rattle.operands.specs.Kinds.{is_absent, is_register, is_register_r, is_register_m, is_memory}
use Rattle.operands.specs.declared.Instruction.{Instruction}
use Rattle.operands.specs.declared.Operand.{Operand}
use Rattle.operands.specs.Parts.{is_bank0, is_mask_register, mask_of}
use Rattle.operands.specs.RegisterBytes.{is_register_byte}
use Rattle.arms.specs.Tests.{lsl_source}
use Rattle.names.specs.declared.Arm.{Arm}
use Rattle.names.specs.declared.Arm.TheVariants.{
  Hreset,
  Lsl,
  Prefetch,
  Sgdt,
  Lss,
  ScatterDword,
  ScatterQword,
  Invlpgb,
  Scas,
  Lods,
  Incssp,
  Wrss,
  Pblendvb,
  Lea,
  Fcom,
  Fadd,
  Fbld,
  Fbstp,
}
use Rattle.names.specs.Among.{is_arm, is_one_of}

-- "an operand that the opcode's arm prints or tests is at or past the count (after LSL's operand 0 and in the general path,
-- absent ones are skipped)": first the arms that print or test operand 0, then those of operand 1, then that of operand 2
abbrev pub past_count : Arm → Instruction → Bool
past_count arm i =
    is_one_of arm (Hreset ∷ Lsl ∷ Prefetch ∷ Sgdt ∷ Lss ∷ Invlpgb ∷ Scas ∷ Incssp ∷ Pblendvb ∷ Lea ∷ Fadd ∷ Fbstp ∷ []) && is_absent i.a
    || is_one_of arm (Lss ∷ Lods ∷ Wrss ∷ Pblendvb ∷ Lea ∷ Fcom ∷ Fadd ∷ Fbld ∷ []) && is_absent i.b
    || is_arm arm Invlpgb && is_absent i.c

-- "LSL operand 0 is no register, or its rewritten source is none"; only a register as operand 1 is rewritten
abbrev pub lsl_refused : Operand → Operand → Bool
lsl_refused a b = not (is_register a) || is_register b && not (is_register_byte (lsl_source a b))

-- "in the FADD arm operand 1 is no memory and neither operand is kind 1"
abbrev pub fadd_refused : Operand → Operand → Bool
fadd_refused a b = not (is_memory b) && not (is_register_r a) && not (is_register_r b)

-- "in the FBLD arm operand 1 is neither memory nor kind 2"
abbrev pub fbld_refused : Operand → Bool
fbld_refused b = not (is_memory b) && not (is_register_m b)

-- document 02, of VPSCATTER: "operand 0 of kinds 9 to 16 ..; operand 1, the mask, a bank 9 register; else answer 4"; and operand 2 is
-- printed, so it has to be there
abbrev pub scatter_refused : Operand → Operand → Operand → Bool
scatter_refused a b c = not (is_memory a && eqb (mask_of a) 0) || not (is_mask_register b) || is_absent c

-- the whole sentence
unfoldable pub shape_refused : Arm → Instruction → Bool
shape_refused arm i =
    past_count arm i
    || is_arm arm Lsl && lsl_refused i.a i.b
    || is_one_of arm (Sgdt ∷ Scas ∷ []) && not (is_memory i.a)
    || is_one_of arm (Lss ∷ Lods ∷ []) && not (is_memory i.b)
    || is_arm arm Incssp && not (is_bank0 i.a)
    || is_arm arm Wrss && not (is_bank0 i.b)
    || is_arm arm Fadd && fadd_refused i.a i.b
    || is_arm arm Fbld && fbld_refused i.b
    || is_one_of arm (ScatterDword ∷ ScatterQword ∷ []) && scatter_refused i.a i.b i.c
