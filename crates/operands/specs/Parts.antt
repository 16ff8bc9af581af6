-- What an operand has of each kind: its register, its immediate, its segment, and what it shows by itself.
-- Assumes nothing.
use Rattle.std.specs.Prelude.{Bool, ◌&&◌, List, [], ◌∷◌, ℕ, zero, suc, eqb, get_or, Option}
use Rattle.std.specs.Prelude as option
use Rattle.operands.specs.declared.Operand.{Operand}
use Rattle.operands.specs.declared.Operand.TheVariants.{Absent, Register, Imm, Absolute16, Absolute32, Memory}
use Rattle.operands.specs.declared.Instruction.{Instruction}
use Rattle.operands.specs.declared.Label.{Label}
use Rattle.operands.specs.declared.Label.TheVariants.{None}
use Rattle.operands.specs.declared.Shown.{Shown}
use Rattle.operands.specs.declared.Shown.TheVariants as shown
use Rattle.operands.specs.declared.Item.{Item}
use Rattle.operands.specs.Kinds.{is_register}
use Rattle.operands.specs.RegisterBytes.{is_vector_byte, bank, st0}

-- operand k of a record; from 4 up there is none
abbrev pub operand_in : Instruction → ℕ → Operand
operand_in i zero = i.a
operand_in i (suc zero) = i.b
operand_in i (suc (suc zero)) = i.c
operand_in i (suc (suc (suc zero))) = i.d
operand_in i (suc (suc (suc (suc k)))) = Absent

-- the same record at this start address
abbrev pub starting_at : ℕ → Instruction → Instruction
starting_at start i =
    record {
      opcode = i.opcode;
      flags = i.flags;
      length = i.length;
      start = start;
      size = i.size;
      imm = i.imm;
      bits = i.bits;
      tail = i.tail;
      a = i.a;
      b = i.b;
      c = i.c;
      d = i.d;
    }

-- an operand itself: document 000's `visit_operand`
abbrev pub shown_of : Operand → Shown
shown_of Absent = shown.Nothing
shown_of (Register place reg) = shown.Name reg
shown_of (Imm kind value) = shown.Number value
shown_of (Absolute16 segment address) = shown.Word address
shown_of (Absolute32 segment address) = shown.Dword address
shown_of (Memory segment address mask) = shown.Bracket address

-- an operand's own segment, 0 for none; what is no memory has none
abbrev pub segment_of : Operand → ℕ
segment_of (Absolute16 segment address) = segment
segment_of (Absolute32 segment address) = segment
segment_of (Memory segment address mask) = segment
segment_of _ = 0

-- the register byte of kinds 1 and 2, and 0 of any other operand
abbrev pub register_of : Operand → ℕ
register_of (Register place reg) = reg
register_of _ = 0

-- the kind of an immediate, 3 to 8, and 0 of any other operand
abbrev pub immediate_kind : Operand → ℕ
immediate_kind (Imm kind value) = kind
immediate_kind _ = 0

-- the value of an immediate, and 0 of any other operand
abbrev pub immediate_of : Operand → ℕ
immediate_of (Imm kind value) = value
immediate_of _ = 0

-- a register of the banks 5 to 7
abbrev pub is_vector : Operand → Bool
is_vector o = is_register o && is_vector_byte (register_of o)

-- a "bank 0 register"
abbrev pub is_bank0 : Operand → Bool
is_bank0 o = is_register o && eqb (bank (register_of o)) 0

-- st(0)
abbrev pub is_st0 : Operand → Bool
is_st0 o = is_register o && eqb (register_of o) st0

-- the register byte of an operand's own mask, 0 for none
abbrev pub mask_of : Operand → ℕ
mask_of (Memory segment address mask) = mask
mask_of _ = 0

-- a mask register, one of bank 9
abbrev pub is_mask_register : Operand → Bool
is_mask_register o = is_register o && eqb (bank (register_of o)) 9

-- document 02: "Widths of banks 0 to 9: 4, 2, 1, 2, 10, 8, 16, 32, 64, 8"
abbrev pub bank_widths : List ℕ
bank_widths = 4 ∷ 2 ∷ 1 ∷ 2 ∷ 10 ∷ 8 ∷ 16 ∷ 32 ∷ 64 ∷ 8 ∷ []

-- "of immediates their own", by kind: 3 i8, 4 i16, 5 i32, 6 u8, 7 u16, 8 u32
abbrev pub immediate_widths : List ℕ
immediate_widths = 0 ∷ 0 ∷ 0 ∷ 1 ∷ 2 ∷ 4 ∷ 1 ∷ 2 ∷ 4 ∷ []

abbrev pub bank_width : ℕ → ℕ
bank_width bank = get_or bank_widths bank 0

abbrev pub immediate_width : ℕ → ℕ
immediate_width kind = get_or immediate_widths kind 0

-- the width in bytes of an operand, 0 where it has none: "memory has none"
abbrev pub width_of : Operand → ℕ
width_of (Register place reg) = bank_width (bank reg)
width_of (Imm kind value) = immediate_width kind
width_of _ = 0

-- one operand of a line: its label, its segment, what is shown, and its mask and broadcast after that
abbrev pub item : Label → ℕ → Shown → ℕ → Option ℕ → Item
item label segment shown mask broadcast = record { label = label; segment = segment; shown = shown; mask = mask; broadcast = broadcast }

-- what is shown with nothing before it and nothing after it
abbrev pub bare : Shown → Item
bare shown = item None 0 shown 0 option.None

-- an operand that the line does not have
abbrev pub nothing : Item
nothing = bare shown.Nothing
