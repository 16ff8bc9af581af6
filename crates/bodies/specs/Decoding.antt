-- What an accepted body says: its Instruction. Nothing here decides a refusal.
-- Assumes nothing.
use Rattle.std.specs.Prelude.{Bool, true, false, cond, ◌||◌, List, ℕ, ◌+◌, ◌-◌, ◌%◌, ◌^◌, eqb, leb, ltb, ℤ, pos}
use Rattle.frames.specs.Numbers.{signed}
use Rattle.operands.specs.declared.Address.{Address}
use Rattle.operands.specs.declared.Operand.{Operand}
use Rattle.operands.specs.declared.Operand.TheVariants.{Absent, Register, Imm, Absolute16, Absolute32, Memory}
use Rattle.operands.specs.declared.Instruction.{Instruction}
use Rattle.operands.specs.Kinds.{register_m, i8, i16, u8, u16, u32, absolute16, absolute32, in_base_disp, in_index_disp, in_both_disp, form}
use Rattle.frames.specs.Numbers.{byte}
use Rattle.bodies.specs.Body.{opcode_of, flags_of, length_of, size_of, imm_of, disp_of, count_of, place_of, kind_at, mask_at, bits_of, tail_of}

-- "Signed immediates are first extended to 32 bits and read as unsigned": `low` has its sign from `top` up
abbrev pub extended : ℕ → ℕ → ℕ
extended top low = cond (ltb low top) low (low + (2 ^ 32 - (top + top)))

-- "immediates 3 i8, 4 i16, 5 i32, 6 u8, 7 u16, 8 u32"; "Immediates take the low bits of imm"
unfoldable pub immediate : ℕ → ℕ → ℕ
immediate kind imm =
    cond (eqb kind i8) (extended (2 ^ 7) (imm % 2 ^ 8)) (
    cond (eqb kind i16) (extended (2 ^ 15) (imm % 2 ^ 16)) (
    cond (eqb kind u8) (imm % 2 ^ 8) (
    cond (eqb kind u16) (imm % 2 ^ 16) imm)))

-- "12 `[r disp]` .. 14 the same with disp .. 16 the same with disp"
abbrev pub is_displaced : ℕ → Bool
is_displaced kind = eqb kind in_base_disp || eqb kind in_index_disp || eqb kind in_both_disp

-- "disp, signed": the displacement of a kind that has one, else 0
unfoldable pub disp_in : ℕ → ℕ → ℤ
disp_in kind disp = cond (is_displaced kind) (signed 32 disp) (pos 0)

-- "11 `[r]`, 12 `[r disp]`, 13 index and scale, 14 the same with disp, 15 base, index and scale, 16 the same with disp"; a part that
-- the kind lacks is false and 0
unfoldable pub address_of : ℕ → ℕ → ℕ → ℕ → ℕ → Address
address_of kind first second scale disp =
    cond (leb kind in_base_disp) (
    record {
      disp = disp_in kind disp;
      base = first;
      index = 0;
      scale = 0;
      based = true;
      indexed = false;
      displaced = is_displaced kind;
    }) (
    cond (leb kind in_index_disp) (
    record {
      disp = disp_in kind disp;
      base = 0;
      index = first;
      scale = scale;
      based = false;
      indexed = true;
      displaced = is_displaced kind;
    }) (
    record {
      disp = disp_in kind disp;
      base = first;
      index = second;
      scale = scale;
      based = true;
      indexed = true;
      displaced = is_displaced kind;
    }))

-- the operand that an operand's bytes say, with imm and disp of the body: "1 register in the R place, 2 register in the M place;
-- immediates 3 .. 8; memory: 9 absolute u16, 10 absolute u32, 11 .."; "absolutes [take] the low bits of disp"; "kinds 17 to 22, being 11
-- to 16 with a mask", so that the twelve forms of a bracket are one case
unfoldable pub operand_of : ℕ → ℕ → ℕ → ℕ → ℕ → ℕ → ℕ → ℕ → Operand
operand_of imm disp kind segment first second scale mask =
    cond (leb kind register_m) (Register kind first) (
    cond (leb kind u32) (Imm kind (immediate kind imm)) (
    cond (leb kind absolute16) (Absolute16 segment (disp % 2 ^ 16)) (
    cond (leb kind absolute32) (Absolute32 segment disp) (Memory segment (address_of (form kind) first second scale disp) mask))))

-- operand k, `Absent` at or past the count
unfoldable pub operand_at : List ℕ → ℕ → Operand
operand_at body k =
    cond (ltb k (count_of body))
    (operand_of (imm_of body) (disp_of body) (kind_at body k) (byte body (place_of body k + 1)) (byte body (place_of body k + 2))
    (byte body (place_of body k + 3)) (byte body (place_of body k + 4)) (mask_at body k))
    Absent

-- the record of a body of version 1, which "has start address 0"
unfoldable pub instruction_of : List ℕ → Instruction
instruction_of body =
    record {
      opcode = opcode_of body;
      flags = flags_of body;
      length = length_of body;
      start = 0;
      size = size_of body;
      imm = imm_of body;
      bits = bits_of body;
      tail = tail_of body;
      a = operand_at body 0;
      b = operand_at body 1;
      c = operand_at body 2;
      d = operand_at body 3;
    }
