-- Bodies and what they are, by computation: document 01's worked record, extended records, and the edges of the two refusals.
-- Assumes nothing.
use mathlib.Core.List.{List, [], ◌∷◌, ◌++◌, map}
use mathlib.Core.Bool.{true, false, cond}
use mathlib.Core.Path.{◌≡◌, refl}
use Prim.Native.Nat.{ℕ, ◌-◌, ◌*◌, ◌^◌}
use lib.IntN.{pos, negsuc}
use lib.ListN.{replicate}
use Rattle.operands.specs.declared.Instruction.{Instruction}
use Rattle.operands.specs.declared.Operand.TheVariants.{Absent, Register, Imm, Absolute16, Memory}
use Rattle.frames.specs.Numbers.{signed}
use Rattle.bodies.specs.Body.{place_of, any_masked, is_extended}
use Rattle.bodies.specs.Refusals.{length_refused, segment_kept, first_kept, second_kept, scale_kept, mask_kept, operand_refused, field_refused}
use Rattle.bodies.specs.Decoding.{immediate, disp_in, address_of, operand_of, operand_at, instruction_of}

-- what a body is: refused by its length or by a field, or a record
data Decoded : Type 0 where
  Length : Decoded
  Field : Decoded
  Record : Instruction → Decoded

abbrev decoded : List ℕ → Decoded
decoded body = cond (length_refused body) Length (cond (field_refused body) Field (Record (instruction_of body)))

-- opcode, flags and length, then mem_size 0, imm 000000FB, disp 80000000, and the rest from the count on
abbrev body : List ℕ → List ℕ → List ℕ
body head rest = head ++ (0 ∷ 0 ∷ 0 ∷ 0 ∷ 0xFB ∷ 0x80 ∷ 0 ∷ 0 ∷ 0 ∷ rest)

-- JMP of length 5
abbrev jmp : List ℕ → List ℕ
jmp = body (0 ∷ 0 ∷ 0 ∷ 5 ∷ [])

-- the body in document 01's whole listing: JMP, imm 123, one operand of kind 5
worked : decoded (0 ∷ 0 ∷ 0 ∷ 5 ∷ 0 ∷ 0 ∷ 0 ∷ 0 ∷ 0x7B ∷ 0 ∷ 0 ∷ 0 ∷ 0 ∷ 1 ∷ 5 ∷ 0 ∷ 0 ∷ 0 ∷ 0 ∷ []) ≡ Record record {
  opcode = 0;
  flags = 0;
  length = 5;
  start = 0;
  size = 0;
  imm = 123;
  bits = 0;
  tail = 0;
  a = Imm 5 123;
  b = Absent;
  c = Absent;
  d = Absent;
}
unfolding length_refused field_refused operand_refused place_of any_masked is_extended segment_kept first_kept second_kept scale_kept mask_kept instruction_of operand_at operand_of immediate
worked = refl

-- four operands: a register, a signed byte below 0, an absolute, and a bracket with the least disp
abbrev mixed : List ℕ
mixed =
    body (0 ∷ 153 ∷ 63 ∷ 15 ∷ [])
    (4 ∷ 2 ∷ 0 ∷ 63 ∷ 0 ∷ 0 ∷ 3 ∷ 0 ∷ 0 ∷ 0 ∷ 0 ∷ 9 ∷ 6 ∷ 0 ∷ 0 ∷ 0 ∷ 16 ∷ 5 ∷ 0 ∷ 1 ∷ 8 ∷ [])

four : decoded mixed ≡ Record record {
  opcode = 153;
  flags = 63;
  length = 15;
  start = 0;
  size = 0;
  imm = 0xFB;
  bits = 0;
  tail = 0;
  a = Register 2 63;
  b = Imm 3 0xFFFF_FFFB;
  c = Absolute16 6 0;
  d = Memory 5 record {
    disp = negsuc (2 ^ 31 - 1);
    base = 0;
    index = 1;
    scale = 8;
    based = true;
    indexed = true;
    displaced = true;
  } 0;
}
unfolding length_refused field_refused operand_refused place_of any_masked is_extended segment_kept first_kept second_kept scale_kept mask_kept instruction_of operand_at operand_of immediate disp_in address_of signed
four = refl

-- an extended record: VADDPD with flag bit 6, two zmm registers and a bracket with a mask of six bytes, length bits 3 and tail 2
abbrev vectors : List ℕ
vectors =
    body (0 ∷ 175 ∷ 64 ∷ 6 ∷ [])
    (3 ∷ 1 ∷ 0 ∷ 64 ∷ 0 ∷ 0 ∷ 22 ∷ 1 ∷ 2 ∷ 3 ∷ 4 ∷ 79 ∷ 2 ∷ 0 ∷ 71 ∷ 0 ∷ 0 ∷ 3 ∷ 2 ∷ [])

masked : decoded vectors ≡ Record record {
  opcode = 175;
  flags = 64;
  length = 6;
  start = 0;
  size = 0;
  imm = 0xFB;
  bits = 3;
  tail = 2;
  a = Register 1 64;
  b = Memory 1 record {
    disp = negsuc (2 ^ 31 - 1);
    base = 2;
    index = 3;
    scale = 4;
    based = true;
    indexed = true;
    displaced = true;
  } 79;
  c = Register 2 71;
  d = Absent;
}
unfolding length_refused field_refused operand_refused place_of any_masked is_extended segment_kept first_kept second_kept scale_kept mask_kept instruction_of operand_at operand_of immediate disp_in address_of signed
masked = refl

-- VPSCATTERDD with an index of bank 8, and the mask register k1
abbrev scatter : List ℕ
scatter = body (0 ∷ 154 ∷ 0 ∷ 6 ∷ []) (2 ∷ 13 ∷ 0 ∷ 71 ∷ 0 ∷ 1 ∷ 1 ∷ 0 ∷ 73 ∷ 0 ∷ 0 ∷ 0 ∷ 0 ∷ [])

scattered : decoded scatter ≡ Record record {
  opcode = 154;
  flags = 0;
  length = 6;
  start = 0;
  size = 0;
  imm = 0xFB;
  bits = 0;
  tail = 0;
  a = Memory 0 record {
    disp = pos 0;
    base = 0;
    index = 71;
    scale = 1;
    based = false;
    indexed = true;
    displaced = false;
  } 0;
  b = Register 1 73;
  c = Absent;
  d = Absent;
}
unfolding length_refused field_refused operand_refused place_of any_masked is_extended segment_kept first_kept second_kept scale_kept mask_kept instruction_of operand_at operand_of immediate disp_in address_of signed
scattered = refl

-- 13 bytes; an operand too few, or too many; count 5 and one byte too few; an opcode of document 02 without the two bytes that end its
-- record; one of document 01 with them; a mask without its byte, or without the two; a mask past the fourth operand that is not reckoned
abbrev bad_lengths : List (List ℕ)
bad_lengths =
    replicate 13 0 ∷
    jmp (1 ∷ []) ∷
    jmp (0 ∷ 1 ∷ 0 ∷ 0 ∷ 0 ∷ 0 ∷ []) ∷
    jmp (5 ∷ replicate 24 0) ∷
    body (0 ∷ 154 ∷ 0 ∷ 5 ∷ []) (0 ∷ []) ∷
    jmp (0 ∷ 0 ∷ 0 ∷ []) ∷
    jmp (1 ∷ 17 ∷ 0 ∷ 0 ∷ 0 ∷ 0 ∷ []) ∷
    jmp (1 ∷ 17 ∷ 0 ∷ 0 ∷ 0 ∷ 0 ∷ 73 ∷ []) ∷
    jmp (5 ∷ replicate 20 0 ++ (17 ∷ 0 ∷ 0 ∷ 0 ∷ 0 ∷ [])) ∷ []

lengths : map decoded bad_lengths ≡ replicate 9 Length
unfolding length_refused place_of any_masked is_extended
lengths = refl

-- counts 5 and 255 with all their bytes; opcode 176; flag bit 6; lengths 0 and 16; kinds 0 and 23; register bytes 30 and 64; a bracket's
-- register of bank 2, its index of bank 6; segment 7; scale 3; an unused byte that is not 0
abbrev bad_fields : List (List ℕ)
bad_fields =
    jmp (5 ∷ replicate 25 0) ∷
    jmp (255 ∷ replicate (5 * 255) 0) ∷
    body (0 ∷ 176 ∷ 0 ∷ 5 ∷ []) (0 ∷ []) ∷
    body (0 ∷ 0 ∷ 64 ∷ 5 ∷ []) (0 ∷ []) ∷
    body (0 ∷ 0 ∷ 0 ∷ 0 ∷ []) (0 ∷ []) ∷
    body (0 ∷ 0 ∷ 0 ∷ 16 ∷ []) (0 ∷ []) ∷
    jmp (1 ∷ 0 ∷ 0 ∷ 0 ∷ 0 ∷ 0 ∷ []) ∷
    jmp (1 ∷ 23 ∷ 0 ∷ 0 ∷ 0 ∷ 1 ∷ []) ∷
    jmp (1 ∷ 1 ∷ 0 ∷ 30 ∷ 0 ∷ 0 ∷ []) ∷
    jmp (1 ∷ 1 ∷ 0 ∷ 64 ∷ 0 ∷ 0 ∷ []) ∷
    jmp (1 ∷ 11 ∷ 0 ∷ 16 ∷ 0 ∷ 0 ∷ []) ∷
    jmp (1 ∷ 13 ∷ 0 ∷ 48 ∷ 0 ∷ 1 ∷ []) ∷
    jmp (1 ∷ 11 ∷ 7 ∷ 0 ∷ 0 ∷ 0 ∷ []) ∷
    jmp (1 ∷ 13 ∷ 0 ∷ 0 ∷ 0 ∷ 3 ∷ []) ∷
    jmp (1 ∷ 5 ∷ 0 ∷ 0 ∷ 0 ∷ 1 ∷ []) ∷ []

fields : map decoded bad_fields ≡ replicate 15 Field
unfolding length_refused field_refused operand_refused place_of any_masked is_extended segment_kept first_kept second_kept scale_kept mask_kept
fields = refl

-- five operands with masks
abbrev sixes : List ℕ
sixes =
    17 ∷ 0 ∷ 0 ∷ 0 ∷ 0 ∷ 73 ∷ 18 ∷ 0 ∷ 0 ∷ 0 ∷ 0 ∷ 73 ∷ 17 ∷ 0 ∷ 0 ∷ 0 ∷ 0 ∷ 73 ∷ 18 ∷ 0 ∷ 0 ∷ 0 ∷ 0 ∷ 73 ∷ 22 ∷ 0 ∷ 0 ∷ 0 ∷ 1 ∷ 73 ∷ []

-- in extended records: flag bit 7; length bits 4; tail 3; register byte 80; the masks k0, and 80; an index of bank 6 in a kind with a mask
-- of VPSCATTERDD, in its operand 1, and in operand 0 of VADDPD; a base of bank 6; an index of bank 9; five operands
abbrev bad_extended : List (List ℕ)
bad_extended =
    body (0 ∷ 175 ∷ 128 ∷ 5 ∷ []) (0 ∷ 0 ∷ 0 ∷ []) ∷
    body (0 ∷ 175 ∷ 0 ∷ 5 ∷ []) (0 ∷ 4 ∷ 0 ∷ []) ∷
    body (0 ∷ 175 ∷ 0 ∷ 5 ∷ []) (0 ∷ 0 ∷ 3 ∷ []) ∷
    body (0 ∷ 175 ∷ 0 ∷ 5 ∷ []) (1 ∷ 1 ∷ 0 ∷ 80 ∷ 0 ∷ 0 ∷ 0 ∷ 0 ∷ []) ∷
    jmp (1 ∷ 17 ∷ 0 ∷ 0 ∷ 0 ∷ 0 ∷ 72 ∷ 0 ∷ 0 ∷ []) ∷
    jmp (1 ∷ 17 ∷ 0 ∷ 0 ∷ 0 ∷ 0 ∷ 80 ∷ 0 ∷ 0 ∷ []) ∷
    body (0 ∷ 154 ∷ 0 ∷ 5 ∷ []) (1 ∷ 19 ∷ 0 ∷ 48 ∷ 0 ∷ 1 ∷ 73 ∷ 0 ∷ 0 ∷ []) ∷
    body (0 ∷ 154 ∷ 0 ∷ 5 ∷ []) (2 ∷ 11 ∷ 0 ∷ 0 ∷ 0 ∷ 0 ∷ 13 ∷ 0 ∷ 48 ∷ 0 ∷ 1 ∷ 0 ∷ 0 ∷ []) ∷
    body (0 ∷ 175 ∷ 0 ∷ 5 ∷ []) (1 ∷ 13 ∷ 0 ∷ 48 ∷ 0 ∷ 1 ∷ 0 ∷ 0 ∷ []) ∷
    body (0 ∷ 154 ∷ 0 ∷ 5 ∷ []) (1 ∷ 15 ∷ 0 ∷ 48 ∷ 0 ∷ 1 ∷ 0 ∷ 0 ∷ []) ∷
    body (0 ∷ 154 ∷ 0 ∷ 5 ∷ []) (1 ∷ 13 ∷ 0 ∷ 72 ∷ 0 ∷ 1 ∷ 0 ∷ 0 ∷ []) ∷
    jmp (5 ∷ sixes ++ (0 ∷ 0 ∷ [])) ∷ []

extended : map decoded bad_extended ≡ replicate 12 Field
unfolding length_refused field_refused operand_refused place_of any_masked is_extended segment_kept first_kept second_kept scale_kept mask_kept
extended = refl
