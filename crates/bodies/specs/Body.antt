-- The fields of a record body, by document 01's table, and what document 02 adds to it.
-- Assumes nothing.
use Rattle.std.specs.Prelude.{Bool, false, cond, ◌&&◌, ◌||◌, List, ℕ, zero, suc, ◌+◌, leb}
use Rattle.frames.specs.Numbers.{byte, word, dword}
use Rattle.operands.specs.Kinds.{is_masked}

-- "2 | opcode"
abbrev pub opcode_of : List ℕ → ℕ
opcode_of body = word body 0

-- "1 | flags"
abbrev pub flags_of : List ℕ → ℕ
flags_of body = byte body 2

-- "1 | instruction length"
abbrev pub length_of : List ℕ → ℕ
length_of body = byte body 3

-- "1 | mem_size"
abbrev pub size_of : List ℕ → ℕ
size_of body = byte body 4

-- "4 | imm"
abbrev pub imm_of : List ℕ → ℕ
imm_of body = dword body 5

-- "4 | disp", as its bits
abbrev pub disp_of : List ℕ → ℕ
disp_of body = dword body 9

-- "1 | count n"
abbrev pub count_of : List ℕ → ℕ
count_of body = byte body 13

-- "5n | per operand"; of a kind with a mask "its register byte a sixth byte of the operand"
abbrev pub operand_size : ℕ → ℕ
operand_size kind = cond (is_masked kind) 6 5

-- the place after the operand that begins at a place: its first byte is its kind
abbrev pub place_after : List ℕ → ℕ → ℕ
place_after body at = at + operand_size (byte body at)

-- where operand k begins: after the fixed fields and the operands before it
unfoldable pub place_of : List ℕ → ℕ → ℕ
place_of body zero = 14
place_of body (suc k) = place_after body (place_of body k)

-- the kind of operand k
abbrev pub kind_at : List ℕ → ℕ → ℕ
kind_at body k = byte body (place_of body k)

-- the register byte of its mask, 0 of a kind that has none
abbrev pub mask_at : List ℕ → ℕ → ℕ
mask_at body k = cond (is_masked (kind_at body k)) (byte body (place_of body k + 5)) 0

-- one of the first n operands has a mask
unfoldable pub any_masked : List ℕ → ℕ → Bool
any_masked body zero = false
any_masked body (suc n) = any_masked body n || is_masked (kind_at body n)

-- "the four VPSCATTER arms .. and the seventeen opcodes of document 000's broadcast rule, then VADDPD; numbered from 154 in that order"
abbrev pub is_scatter : ℕ → Bool
is_scatter opcode = leb 154 opcode && leb opcode 157

abbrev pub is_vector_opcode : ℕ → Bool
is_vector_opcode opcode = leb 154 opcode && leb opcode 175

-- "Records with such kinds or opcodes end in two more bytes": any stored operand counts, shown or not
unfoldable pub is_extended : List ℕ → Bool
is_extended body = is_vector_opcode (opcode_of body) || any_masked body (count_of body)

-- where the stored operands end
abbrev pub end_of : List ℕ → ℕ
end_of body = place_of body (count_of body)

-- "length bits (bit 0 l, bit 1 lp)", 0 where the record has none
abbrev pub bits_of : List ℕ → ℕ
bits_of body = cond (is_extended body) (byte body (end_of body)) 0

-- "and a tail for the general path", 0 where the record has none
abbrev pub tail_of : List ℕ → ℕ
tail_of body = cond (is_extended body) (byte body (end_of body + 1)) 0
