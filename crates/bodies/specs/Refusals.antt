-- Which bodies are refused: answers 2 and 3 of document 01's table, each a test of the body's bytes.
-- Assumes nothing.
use Rattle.std.specs.Prelude.{Bool, not, cond, ◌&&◌, ◌||◌, List, ℕ, ◌+◌, ◌*◌, eqb, leb, ltb, length}
use Rattle.operands.specs.Kinds.{register_r, register_m, absolute16, in_base, in_index, in_index_disp, in_both, is_masked, form}
use Rattle.operands.specs.RegisterBytes.{is_register_byte, is_old_byte, is_address_byte, is_vector_index_byte, is_mask_byte}
use Rattle.names.specs.Opcodes.{opcode_count}
use Rattle.frames.specs.Numbers.{byte}
use Rattle.bodies.specs.Body.{opcode_of, flags_of, length_of, count_of, place_of, kind_at, mask_at, is_scatter, is_extended, end_of, bits_of, tail_of}

-- answer 2: "body under 14 bytes or not 14 + 5n (n as stored)"; "Answer 2 reckons by the stored kinds and opcode"
unfoldable pub length_refused : List ℕ → Bool
length_refused body = ltb (length body) 14 || not (eqb (length body) (end_of body + cond (is_extended body) 2 0))

-- the most fields whose length can be right: n is a byte, every operand has a mask, and two bytes follow
abbrev pub longest_fields : ℕ
longest_fields = 14 + 6 * 255 + 2

-- the longest body whose length can be right: version 2 has four bytes more
abbrev pub longest_body : ℕ
longest_body = 4 + longest_fields

-- "Scale .. is 1, 2, 4 or 8."
abbrev pub is_scale : ℕ → Bool
is_scale scale = eqb scale 1 || eqb scale 2 || eqb scale 4 || eqb scale 8

-- "Kinds: 1 .. 16"; "kinds 17 to 22, being 11 to 16 with a mask"
abbrev pub kind_kept : ℕ → Bool
kind_kept kind = leb register_r kind && leb kind 22

-- the rules of an operand's bytes go by its form, which is its kind without the mask: "Segment, in memory kinds, is 0 for none or
-- 1 to 6"; elsewhere the byte is not used, so 0
unfoldable pub segment_kept : ℕ → ℕ → Bool
segment_kept form segment = cond (leb absolute16 form) (leb segment 6) (eqb segment 0)

-- the register of kinds 1 and 2; in records that are not extended "banks 8, 9 .. there being answer 3"
abbrev pub register_kept : Bool → ℕ → Bool
register_kept extended reg = is_register_byte reg && (is_old_byte reg || extended)

-- "Memory kinds take banks 0 and 1 only"; where the operand takes vectors, "its index also from banks 6 to 8"
abbrev pub index_kept : Bool → ℕ → Bool
index_kept vectors reg = is_address_byte reg || (vectors && is_vector_index_byte reg)

-- "Kinds 1, 2, 11 and 12 use the first register; 13 and 14 the first as index; 15 and 16 the first as base"; elsewhere 0
unfoldable pub first_kept : Bool → Bool → ℕ → ℕ → Bool
first_kept extended vectors form first =
    cond (leb form register_m) (register_kept extended first) (
    cond (eqb form in_index || eqb form in_index_disp) (index_kept vectors first) (
    cond (leb in_base form) (is_address_byte first) (eqb first 0)))

-- "15 and 16 .. the second as index"; elsewhere 0
unfoldable pub second_kept : Bool → ℕ → ℕ → Bool
second_kept vectors form second = cond (leb in_both form) (index_kept vectors second) (eqb second 0)

-- "Scale, in kinds 13 to 16, is 1, 2, 4 or 8"; elsewhere 0
unfoldable pub scale_kept : ℕ → ℕ → Bool
scale_kept form scale = cond (leb in_index form) (is_scale scale) (eqb scale 0)

-- "a mask, k1 to k7"; a kind without one has 0
unfoldable pub mask_kept : ℕ → ℕ → Bool
mask_kept kind mask = cond (is_masked kind) (is_mask_byte mask) (eqb mask 0)

-- the rule of one operand's bytes, in a record that is extended or not, in an operand that takes vectors as its index or not
abbrev pub operand_kept : Bool → Bool → ℕ → ℕ → ℕ → ℕ → ℕ → ℕ → Bool
operand_kept extended vectors kind segment first second scale mask =
    kind_kept kind && segment_kept (form kind) segment && first_kept extended vectors (form kind) first
    && second_kept vectors (form kind) second && scale_kept (form kind) scale && mask_kept kind mask

-- "the four VPSCATTER arms (operand 0 of kinds 9 to 16, its index also from banks 6 to 8)": operand k takes vectors as its index
abbrev pub takes_vectors : List ℕ → ℕ → Bool
takes_vectors body k = eqb k 0 && is_scatter (opcode_of body) && not (is_masked (kind_at body k))

-- operand k is stored, and breaks the rule
unfoldable pub operand_refused : List ℕ → ℕ → Bool
operand_refused body k =
    ltb k (count_of body) && not
    (operand_kept (is_extended body) (takes_vectors body k) (kind_at body k) (byte body (place_of body k + 1)) (byte body (place_of body k + 2))
    (byte body (place_of body k + 3)) (byte body (place_of body k + 4)) (mask_at body k))

-- flags "6 and 7 zero"; in extended records "Flag bit 6 puts `{1toN}`", and bit 7 is zero
abbrev pub flags_kept : Bool → ℕ → Bool
flags_kept extended flags = ltb flags (cond extended 128 64)

-- answer 3: "a field outside the record rules". A number that no opcode has; flags; "instruction length, 1 to 15"; "count n, 0 to 4",
-- and then no more than four operands are stored; length bits that are not two bits; a tail that is not "0 none, 1 `{sae}`, 2 ..".
unfoldable pub field_refused : List ℕ → Bool
field_refused body =
    leb opcode_count (opcode_of body) || not (flags_kept (is_extended body) (flags_of body)) || ltb (length_of body) 1 || ltb 15 (length_of body)
    || ltb 4 (count_of body) || operand_refused body 0 || operand_refused body 1 || operand_refused body 2 || operand_refused body 3
    || ltb 3 (bits_of body) || ltb 2 (tail_of body)
