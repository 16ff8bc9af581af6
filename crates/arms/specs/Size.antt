-- Answer 5: "a label is called for and there is none; LSS not 4 or 6", from the record's fields and its arm.
-- Assumes nothing.
use Rattle.std.specs.Prelude.{Bool, not, ◌&&◌, ◌||◌, [], ◌∷◌, ℕ, eqb}
use Rattle.operands.specs.Kinds.{is_absent, is_register, is_memory}
use Rattle.operands.specs.declared.Instruction.{Instruction}
use Rattle.arms.specs.Tests.{is_branch, is_xbegin}
use Rattle.names.specs.declared.Arm.{Arm}
use Rattle.names.specs.declared.Arm.TheVariants.{
  General,
  Qword,
  Mmword,
  Jmpf,
  Callf,
  Lds,
  Movs,
  Cmps,
  Singles,
  Doubles,
  Branch,
  Call,
  Xbegin,
  Lsl,
  Lss,
  Nop,
  Scas,
  Lods,
  Incssp,
  Wrss,
  Pblendvb,
  Aam,
  Fcom,
  Fadd,
  Fbld,
  Fbstp,
}
use Rattle.names.specs.Among.{is_arm, is_one_of}

-- "Labels: 1 byte, 2 word, 4 dword, 8 qword, 16 xmmword, 32 ymmword, 64 zmmword": the sizes with a label wherever one is called for
abbrev pub has_label : ℕ → Bool
has_label size = eqb size 1 || eqb size 2 || eqb size 4 || eqb size 8 || eqb size 16 || eqb size 32 || eqb size 64

-- The general path calls for a label before every memory operand, but for none at the sizes 63 and 48. `first` says whether 6
-- has one before operand 0, `later` whether it has one before those after it.
abbrev pub general_refused : (first later : Bool) → Instruction → Bool
general_refused first later i =
    not (eqb i.size 63 || eqb i.size 48)
    && (is_memory i.a && not (has_label i.size || eqb i.size 6 && first)
    || (is_memory i.b || is_memory i.c || is_memory i.d) && not (has_label i.size || eqb i.size 6 && later))

-- the records that take the general path: those of its own arms, and those that another arm leaves to it
abbrev pub general_path : Arm → Instruction → Bool
general_path arm i =
    is_one_of arm (General ∷ Qword ∷ Mmword ∷ Jmpf ∷ Callf ∷ Lds ∷ Movs ∷ Cmps ∷ Singles ∷ Doubles ∷ Incssp ∷ Wrss ∷ [])
    || is_one_of arm (Branch ∷ Call ∷ []) && not (is_branch i.a)
    || is_arm arm Xbegin && not (is_xbegin i.a)
    || is_arm arm Lsl && not (is_register i.a && is_register i.b)
    || is_arm arm Nop && is_absent i.b
    || is_arm arm Aam && not (eqb i.imm 10)

-- Where a label is called for and there is none: the general path, with `fword` in operand 0 of JMPF and CALLF and after
-- operand 0 of LDS, LES, LFS, LGS; SCAS, STOS and LODS; operand 1 of the PBLENDVB, FCOM and FADD arms where it is memory; the
-- same of the FBLD arm, and operand 0 of the FBSTP arm, where 10 has a label too; and LSS.
unfoldable pub size_refused : Arm → Instruction → Bool
size_refused arm i =
    general_path arm i && general_refused (is_one_of arm (Jmpf ∷ Callf ∷ [])) (is_arm arm Lds) i
    || is_one_of arm (Scas ∷ Lods ∷ []) && not (has_label i.size)
    || is_one_of arm (Pblendvb ∷ Fcom ∷ Fadd ∷ []) && (is_memory i.b && not (has_label i.size))
    || is_arm arm Fbld && (is_memory i.b && not (has_label i.size || eqb i.size 10))
    || is_arm arm Fbstp && (is_memory i.a && not (has_label i.size || eqb i.size 10))
    || is_arm arm Lss && not (eqb i.size 4 || eqb i.size 6)
