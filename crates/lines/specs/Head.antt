-- The head of a line: prefix words, mnemonic and its suffix, from the record's flags and opcode and its arm.
-- Assumes nothing.
use Rattle.std.specs.Prelude.{Bool, cond, not, ◌&&◌, ◌||◌, [], ◌∷◌, ℕ}
use Rattle.names.specs.declared.Arm.{Arm}
use Rattle.names.specs.declared.Arm.TheVariants.{Jmpf, Callf, Movs, Cmps, Feni as FeniArm, Fdisi as FdisiArm, Fsetpm as FsetpmArm, Scas, Lods, Incssp, Wrss, Pushf}
use Rattle.names.specs.Among.{is_arm, is_one_of}
use Rattle.operands.specs.Flags.{bit}
use Rattle.lines.specs.declared.Head.{Head}
use Rattle.lines.specs.declared.Name.{Name}
use Rattle.lines.specs.declared.Name.TheVariants.{Opcode, Feni, Fdisi, Fsetpm}

-- "`can_rep`: MOVS CMPS SCAS LODS STOS INS OUTS"
abbrev pub can_rep : Arm → Bool
can_rep arm = is_one_of arm (Movs ∷ Cmps ∷ Scas ∷ Lods ∷ [])

-- JMPF and CALLF print `jmp` and `call`, the three FENI8087_NOP words of their own, every other opcode its own name
abbrev pub name_of : Arm → ℕ → Name
name_of arm opcode =
    cond (is_arm arm Jmpf) (Opcode 0)
    (cond (is_arm arm Callf) (Opcode 1)
    (cond (is_arm arm FeniArm) Feni
    (cond (is_arm arm FdisiArm) Fdisi
    (cond (is_arm arm FsetpmArm) Fsetpm
    (Opcode opcode)))))

-- a `d` after INCSSP, WRSS, WRUSS, and after PUSHF unless the operand size flag is set
abbrev pub suffixed : Arm → ℕ → Bool
suffixed arm flags = is_one_of arm (Incssp ∷ Wrss ∷ []) || is_arm arm Pushf && not (bit 5 flags)

-- From a record's opcode and flags: the prefix words in the printed order, "both rep flags print rep"; then the name and its suffix
unfoldable pub head_of : Arm → ℕ → ℕ → Head
head_of arm opcode flags =
    record {
      xacquire = bit 0 flags;
      xrelease = bit 1 flags;
      lock = bit 2 flags;
      rep = can_rep arm && bit 3 flags;
      repne = can_rep arm && (not (bit 3 flags) && bit 4 flags);
      name = name_of arm opcode;
      suffix = suffixed arm flags;
    }
