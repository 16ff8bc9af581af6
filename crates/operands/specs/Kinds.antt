-- The kinds of documents 01 and 02 by name, and what is asked of an operand by its kind.
-- Assumes nothing.
use Rattle.std.specs.Prelude.{Bool, true, false, cond, ◌&&◌, ℕ, ◌-◌, eqb, leb}
use Rattle.operands.specs.declared.Operand.{Operand}
use Rattle.operands.specs.declared.Operand.TheVariants.{Absent, Register, Absolute16, Absolute32, Memory}

-- "1 register in the R place (`RegRRR`), 2 register in the M place"
abbrev pub register_r : ℕ
register_r = 1

abbrev pub register_m : ℕ
register_m = 2

-- "immediates 3 i8, 4 i16, 5 i32, 6 u8, 7 u16, 8 u32"
abbrev pub i8 : ℕ
i8 = 3

abbrev pub i16 : ℕ
i16 = 4

abbrev pub i32 : ℕ
i32 = 5

abbrev pub u8 : ℕ
u8 = 6

abbrev pub u16 : ℕ
u16 = 7

abbrev pub u32 : ℕ
u32 = 8

-- "memory: 9 absolute u16, 10 absolute u32"
abbrev pub absolute16 : ℕ
absolute16 = 9

abbrev pub absolute32 : ℕ
absolute32 = 10

-- "11 `[r]`, 12 `[r disp]`"
abbrev pub in_base : ℕ
in_base = 11

abbrev pub in_base_disp : ℕ
in_base_disp = 12

-- "13 index and scale, 14 the same with disp"
abbrev pub in_index : ℕ
in_index = 13

abbrev pub in_index_disp : ℕ
in_index_disp = 14

-- "15 base, index and scale, 16 the same with disp"
abbrev pub in_both : ℕ
in_both = 15

abbrev pub in_both_disp : ℕ
in_both_disp = 16

-- document 02: "kinds 17 to 22, being 11 to 16 with a mask"
abbrev pub is_masked : ℕ → Bool
is_masked kind = leb 17 kind && leb kind 22

-- the kind that a masked one is with its mask, and any other kind itself
abbrev pub form : ℕ → ℕ
form kind = cond (is_masked kind) (kind - 6) kind

-- "at or past the count"
abbrev pub is_absent : Operand → Bool
is_absent Absent = true
is_absent _ = false

-- kinds 1 and 2
abbrev pub is_register : Operand → Bool
is_register (Register place reg) = true
is_register _ = false

-- kind 1
abbrev pub is_register_r : Operand → Bool
is_register_r (Register place reg) = eqb place register_r
is_register_r _ = false

-- kind 2
abbrev pub is_register_m : Operand → Bool
is_register_m (Register place reg) = eqb place register_m
is_register_m _ = false

-- kinds 9 to 22
abbrev pub is_memory : Operand → Bool
is_memory (Absolute16 segment address) = true
is_memory (Absolute32 segment address) = true
is_memory (Memory segment address mask) = true
is_memory _ = false
