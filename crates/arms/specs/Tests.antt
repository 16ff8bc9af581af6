-- What the arms of document 000 test.
-- Assumes nothing.
use Rattle.std.specs.Prelude.{Bool, ◌||◌, ℕ, eqb}
use Rattle.operands.specs.declared.Operand.{Operand}
use Rattle.operands.specs.declared.Instruction.{Instruction}
use Rattle.operands.specs.Kinds.{i8, i32}
use Rattle.operands.specs.Parts.{register_of, immediate_kind, is_vector}
use Rattle.operands.specs.RegisterBytes.{bank, number, register_in}

-- "Relative branches with kind 3 or 5 as operand 0"
abbrev pub is_branch : Operand → Bool
is_branch o = eqb (immediate_kind o) i8 || eqb (immediate_kind o) i32

-- "and XBEGIN with kind 5"
abbrev pub is_xbegin : Operand → Bool
is_xbegin o = eqb (immediate_kind o) i32

-- the rewritten source of LSL: operand 1's number in operand 0's bank
abbrev pub lsl_source : Operand → Operand → ℕ
lsl_source a b = register_in (bank (register_of a)) (number (register_of b))

-- document 000's `size_is_mmword`, before it looks at the opcode: any of the record's operands is a register of banks 5 to 7
abbrev pub has_vector : Instruction → Bool
has_vector i = is_vector i.a || is_vector i.b || is_vector i.c || is_vector i.d
