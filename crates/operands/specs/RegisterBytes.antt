-- "A register byte is 8 times bank plus number."
-- Assumes nothing.
use Rattle.std.specs.Prelude.{Bool, not, ◌&&◌, ℕ, ◌+◌, ◌*◌, ◌/◌, ◌%◌, eqb, leb, ltb}

abbrev pub bank : ℕ → ℕ
bank reg = reg / 8

abbrev pub number : ℕ → ℕ
number reg = reg % 8

-- the register of a bank with a number
abbrev pub register_in : ℕ → ℕ → ℕ
register_in bank number = 8 * bank + number

-- "Bytes 30, 31 .. are no register", and none above the banks 8, zmm0 to zmm7, and 9, k0 to k7, which document 02 adds
abbrev pub is_register_byte : ℕ → Bool
is_register_byte reg = ltb reg 80 && not (eqb reg 30) && not (eqb reg 31)

-- a register of document 01's own banks, 0 to 7: "64 up are no register"
abbrev pub is_old_byte : ℕ → Bool
is_old_byte reg = ltb reg 64

-- "Memory kinds take banks 0 and 1 only."
abbrev pub is_address_byte : ℕ → Bool
is_address_byte reg = ltb reg 16

-- document 02: an "index also from banks 6 to 8"
abbrev pub is_vector_index_byte : ℕ → Bool
is_vector_index_byte reg = leb 6 (bank reg) && leb (bank reg) 8

-- document 02: "a mask, k1 to k7"
abbrev pub is_mask_byte : ℕ → Bool
is_mask_byte reg = ltb 72 reg && ltb reg 80

-- banks 5 to 7: mm, xmm, ymm
abbrev pub is_vector_byte : ℕ → Bool
is_vector_byte reg = leb 5 (bank reg) && leb (bank reg) 7

-- the registers that arms show by themselves, or ask for
abbrev pub eax : ℕ
eax = 0

abbrev pub ecx : ℕ
ecx = 1

abbrev pub edx : ℕ
edx = 2

abbrev pub st0 : ℕ
st0 = 32

abbrev pub xmm0 : ℕ
xmm0 = 48
