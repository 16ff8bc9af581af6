-- Document 01's own tests of a body, in its own numbers: kinds 1 to 16, banks 0 to 7, opcodes 0 to 153, flags 0 to 5, and five bytes for
-- each operand. "Other records keep layout and lines": `OldKept` says what a record that is not extended keeps.
-- Assumes nothing.
use Rattle.std.specs.Prelude.{Bool, not, cond, ◌&&◌, ◌||◌, List, ◌≡◌, ℕ, ◌+◌, ◌*◌, eqb, leb, ltb, length}
use Rattle.operands.specs.declared.Operand.{Operand}
use Rattle.operands.specs.declared.Operand.TheVariants.{Absent}
use Rattle.operands.specs.Parts.{mask_of}
use Rattle.frames.specs.Numbers.{byte}
use Rattle.bodies.specs.Body.{opcode_of, flags_of, length_of, imm_of, disp_of, count_of}
use Rattle.bodies.specs.Refusals.{length_refused, is_scale, field_refused}
use Rattle.bodies.specs.Decoding.{operand_of, operand_at, instruction_of}

-- answer 2: "body under 14 bytes or not 14 + 5n (n as stored)"
abbrev pub old_length_refused : List ℕ → Bool
old_length_refused body = ltb (length body) 14 || not (eqb (length body) (14 + 5 * count_of body))

-- "5n | per operand": where the five bytes of operand k begin
abbrev pub old_place_of : ℕ → ℕ
old_place_of k = 14 + 5 * k

-- "Bytes 30, 31 and 64 up are no register."
abbrev pub is_old_register : ℕ → Bool
is_old_register reg = ltb reg 64 && not (eqb reg 30) && not (eqb reg 31)

-- "Kinds 1, 2, 11 and 12 use the first register; 13 and 14 the first as index; 15 and 16 the first as base"; "Memory kinds take banks 0
-- and 1 only"; elsewhere 0
abbrev pub old_first_kept : ℕ → ℕ → Bool
old_first_kept kind first = cond (leb kind 2) (is_old_register first) (cond (leb 11 kind) (ltb first 16) (eqb first 0))

-- "15 and 16 .. the second as index"; elsewhere 0
abbrev pub old_second_kept : ℕ → ℕ → Bool
old_second_kept kind second = cond (leb 15 kind) (ltb second 16) (eqb second 0)

-- the rule of one operand's five bytes: kinds 1 to 16; a segment up to 6 in memory kinds; the first register; in 15 and 16 the second; in
-- 13 to 16 a scale; and 0 in what the kind does not use
abbrev pub old_operand_kept : ℕ → ℕ → ℕ → ℕ → ℕ → Bool
old_operand_kept kind segment first second scale =
    leb 1 kind && leb kind 16 && cond (leb 9 kind) (leb segment 6) (eqb segment 0) && old_first_kept kind first
    && old_second_kept kind second && cond (leb 13 kind) (is_scale scale) (eqb scale 0)

-- operand k is stored, and breaks the rule
unfoldable pub old_operand_refused : List ℕ → ℕ → Bool
old_operand_refused body k =
    ltb k (count_of body) && not
    (old_operand_kept (byte body (old_place_of k)) (byte body (old_place_of k + 1)) (byte body (old_place_of k + 2)) (byte body (old_place_of k + 3))
    (byte body (old_place_of k + 4)))

-- answer 3: "a field outside the record rules": opcodes 0 to 153; flags "6 and 7 zero"; "instruction length, 1 to 15"; "count n, 0 to 4"
unfoldable pub old_field_refused : List ℕ → Bool
old_field_refused body =
    leb 154 (opcode_of body) || leb 64 (flags_of body) || ltb (length_of body) 1 || ltb 15 (length_of body) || ltb 4 (count_of body)
    || old_operand_refused body 0 || old_operand_refused body 1 || old_operand_refused body 2 || old_operand_refused body 3

-- operand k, from its five bytes
unfoldable pub old_operand_at : List ℕ → ℕ → Operand
old_operand_at body k =
    cond (ltb k (count_of body))
    (operand_of (imm_of body) (disp_of body) (byte body (old_place_of k)) (byte body (old_place_of k + 1)) (byte body (old_place_of k + 2))
    (byte body (old_place_of k + 3)) (byte body (old_place_of k + 4)) 0)
    Absent

-- the two answers are document 01's, and so are the operands, and nothing of document 02 is in the record
pub record OldKept (body : List ℕ) : Type 0 where
  pub lengths : length_refused body ≡ old_length_refused body
  pub fields : field_refused body ≡ old_field_refused body
  pub operands : (k : ℕ) → operand_at body k ≡ old_operand_at body k
  pub masks : (k : ℕ) → mask_of (operand_at body k) ≡ 0
  pub bits : (instruction_of body).bits ≡ 0
  pub tail : (instruction_of body).tail ≡ 0
