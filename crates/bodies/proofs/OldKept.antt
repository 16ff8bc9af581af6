-- A record that is not extended is judged and read as document 01 has it.
-- Assumes nothing.
use mathlib.Core.Bool.{Bool, true, false, not, cond, ◌&&◌, ◌||◌, and-true, and-false, or-false}
use mathlib.Core.List.{List}
use mathlib.Core.Logic.{◌⊎◌, inl, inr, ⊎_elim}
use mathlib.Core.Path.{◌≡◌, refl, sym, ◌∙◌}
use Prim.Native.Nat.{ℕ, ◌+◌, ◌*◌, ◌/◌, ◌≤◌, ◌<◌}
use native.Mathlib.Decide.{dec_lt}
use native.Mathlib.Nat.{div-add-mod'}
use native.Mathlib.Omega.{arith}
use lib.Dec.{eqb, leb, ltb}
use borrow.Author.Tests.{lt-ltb, le-ltb, le-leb, lt-leb, leb-false, eqb-true}
use Rattle.operands.specs.declared.Operand.{Operand}
use Rattle.operands.specs.Flags.{bit}
use Rattle.operands.specs.Kinds.{is_masked}
use Rattle.operands.specs.Parts.{mask_of}
use Rattle.frames.specs.Numbers.{byte}
use Rattle.bodies.specs.Body.{opcode_of, flags_of, count_of, place_of, kind_at, mask_at, is_scatter, is_vector_opcode, is_extended, end_of}
use Rattle.bodies.specs.Refusals.{length_refused, field_refused, kind_kept, register_kept, segment_kept, first_kept, second_kept, scale_kept, mask_kept, operand_kept, operand_refused, takes_vectors}
use Rattle.bodies.specs.Decoding.{operand_at, instruction_of}
use Rattle.bodies.specs.Document01.{old_place_of, is_old_register, old_first_kept, old_operand_kept, old_operand_refused, old_field_refused, old_length_refused, old_operand_at, OldKept}
use Rattle.bodies.proofs.Picks.{either, neither_left, neither_right}
use Rattle.bodies.proofs.OperandPlaces.{place_unmasked, none_masked, not_masked}
use Rattle.bodies.proofs.Lengths.{plain_opcode, plain-masks, plain_end}
use Rattle.bodies.proofs.ByKind.{not-below, operand_none, by_kind}

-- no bank above 7
register_old : (reg : ℕ) → register_kept false reg ≡ is_old_register reg
register_old reg =
    elim (dec_lt reg 64) [
      | yes h ↦ rw (lt-ltb reg 64 h, lt-ltb reg 80 (omega arith), and-true (not (eqb reg 30) && not (eqb reg 31)))
      | no h ↦ rw (le-ltb reg 64 (omega arith), and-false (ltb reg 80 && not (eqb reg 30) && not (eqb reg 31)))
    ]

-- an index is of the banks of a base
index_kind : (kind : ℕ) → (eqb kind 13 || eqb kind 14) ≡ true → 11 ≤ kind
index_kind kind e =
    ⊎_elim (λ f. let is = eqb-true kind 13 f in omega arith) (λ f. let is = eqb-true kind 14 f in omega arith)
    (either (eqb kind 13) (eqb kind 14) e)

first_old : (kind first : ℕ) → first_kept false false kind first ≡ old_first_kept kind first
unfolding first_kept
first_old kind first =
    elim (dec_lt kind 3) [
      | yes h ↦ rw (le-leb kind 2 (omega arith)) (register_old first)
      | no h ↦ rw (lt-leb kind 2 (omega arith)) (memory (eqb kind 13 || eqb kind 14) refl)
    ]
  where
    memory :
        (t : Bool) → (eqb kind 13 || eqb kind 14) ≡ t →
        cond t (ltb first 16 || false) (cond (leb 11 kind) (ltb first 16) (eqb first 0)) ≡ cond (leb 11 kind) (ltb first 16) (eqb first 0)
    memory true e = rw (le-leb 11 kind (index_kind kind e)) (or-false (ltb first 16))
    memory false e = refl

second_old : (kind second : ℕ) → second_kept false kind second ≡ cond (leb 15 kind) (ltb second 16) (eqb second 0)
unfolding second_kept
second_old kind second = rw (or-false (ltb second 16))

-- a number outside of two bounds
outside : (least most n : ℕ) → (leb least n && leb n most) ≡ false → (n < least) ⊎ (most < n)
outside least most n e =
    elim (dec_lt n least) [
      | yes h ↦ inl h
      | no h ↦ inr (leb-false n most (rw (le-leb least n (omega arith)) at e))
    ]

-- of the opcodes from 154 up those are left that no document has
opcode_old : (opcode : ℕ) → is_vector_opcode opcode ≡ false → leb 176 opcode ≡ leb 154 opcode
opcode_old opcode e =
    ⊎_elim (λ h. rw (lt-leb 176 opcode (omega arith), lt-leb 154 opcode h)) (λ h. rw (le-leb 176 opcode h, le-leb 154 opcode (omega arith)))
    (outside 154 175 opcode e)

scatter_old : (opcode : ℕ) → is_vector_opcode opcode ≡ false → is_scatter opcode ≡ false
scatter_old opcode e =
    ⊎_elim (λ h. rw (lt-leb 154 opcode h)) (λ h. rw (lt-leb opcode 157 (omega arith), and-false (leb 154 opcode)))
    (outside 154 175 opcode e)

-- and of the kinds from 17 up
kind_old : (kind : ℕ) → is_masked kind ≡ false → kind_kept kind ≡ (leb 1 kind && leb kind 16)
kind_old kind e =
    ⊎_elim (λ h. rw (le-leb kind 22 (omega arith), le-leb kind 16 (omega arith)))
    (λ h. rw (lt-leb kind 22 h, lt-leb kind 16 (omega arith)))
    (outside 17 22 kind e)

kept_old :
    (kind segment first second scale : ℕ) → is_masked kind ≡ false →
    operand_kept false false kind segment first second scale 0 ≡ old_operand_kept kind segment first second scale
unfolding segment_kept scale_kept mask_kept
kept_old kind segment first second scale e =
    rw (kind_old kind e, e, first_old kind first, second_old kind second, and-true (old_operand_kept kind segment first second scale))

module _ (body : List ℕ) (e : is_extended body ≡ false) where
  module _ (k : ℕ) (h : k < count_of body) where
    plain_kind : is_masked (kind_at body k) ≡ false
    plain_kind = not_masked body k (count_of body) h (plain-masks body e)

    plain_place : place_of body k ≡ old_place_of k
    plain_place = place_unmasked body k (none_masked body k (count_of body) (omega arith) (plain-masks body e))

    plain_mask : mask_at body k ≡ 0
    plain_mask = rw plain_kind

    no_vectors : takes_vectors body k ≡ false
    no_vectors = rw (scatter_old (opcode_of body) (plain_opcode body e), and-false (eqb k 0))

    refused_stored : operand_refused body k ≡ old_operand_refused body k
    unfolding operand_refused old_operand_refused
    refused_stored =
        rw (e, no_vectors, plain_mask, kept_old (kind_at body k) (byte body (place_of body k + 1)) (byte body (place_of body k + 2)) (byte body (place_of body k + 3)) (byte body (place_of body k + 4)) plain_kind, plain_place)

    stored_old : operand_at body k ≡ old_operand_at body k
    unfolding operand_at old_operand_at
    stored_old = rw (plain_mask, plain_place)

    stored_unmasked : mask_of (operand_at body k) ≡ 0
    stored_unmasked =
        by_kind body k h (λ (o : Operand). mask_of o ≡ 0) (λ l. refl) (λ l m. refl) (λ l m s a. refl) (λ l m s a. refl) (λ l s a. plain_mask)

  refused_old : (k : ℕ) → operand_refused body k ≡ old_operand_refused body k
  unfolding operand_refused old_operand_refused
  refused_old k =
      elim (dec_lt k (count_of body)) [
        | yes h ↦ refused_stored k h
        | no h ↦ rw (le-ltb k (count_of body) (omega arith))
      ]

  operand_old : (k : ℕ) → operand_at body k ≡ old_operand_at body k
  unfolding operand_at old_operand_at
  operand_old k =
      elim (dec_lt k (count_of body)) [
        | yes h ↦ stored_old k h
        | no h ↦ rw (le-ltb k (count_of body) (omega arith))
      ]

  unmasked_old : (k : ℕ) → mask_of (operand_at body k) ≡ 0
  unmasked_old k =
      elim (dec_lt k (count_of body)) [
        | yes h ↦ stored_unmasked k h
        | no h ↦ rw (operand_none body k (omega arith))
      ]

  fields_old : field_refused body ≡ old_field_refused body
  unfolding field_refused old_field_refused
  fields_old =
      rw (
        e,
        opcode_old (opcode_of body) (plain_opcode body e),
        not-below 64 (flags_of body) (ltb (flags_of body) 64) refl,
        refused_old 0,
        refused_old 1,
        refused_old 2,
        refused_old 3,
      )
      (or-false _ ∙ or-false _)

  lengths_old : length_refused body ≡ old_length_refused body
  unfolding length_refused
  lengths_old = let same : end_of body + 0 ≡ 14 + 5 * count_of body = omega (arith, plain_end body e) in rw (e, same)

-- "Other records keep layout and lines"
pub old_kept : (body : List ℕ) → is_extended body ≡ false → OldKept body
unfolding instruction_of
old_kept body e =
    record {
      lengths = lengths_old body e;
      fields = fields_old body e;
      operands = operand_old body e;
      masks = unmasked_old body e;
      bits = rw e;
      tail = rw e;
    }

-- flags below 64 have no bit 6
no_bit_6 : (flags : ℕ) → flags < 64 → bit 6 flags ≡ false
no_bit_6 flags h = let none : flags / 64 ≡ 0 = omega (arith, div-add-mod' flags 64, h) in rw none

-- "banks 8, 9 and bit 6 there being answer 3"
pub old_flags : (body : List ℕ) → is_extended body ≡ false → field_refused body ≡ false → bit 6 (flags_of body) ≡ false
unfolding old_field_refused
old_flags body e f =
    let o : old_field_refused body ≡ false = sym (old_kept body e).fields ∙ f in
    no_bit_6 (flags_of body) (leb-false 64 (flags_of body) (search (neither_left, neither_right, o) depth 12))
