-- A body that answer 2 does not refuse holds its fixed fields and its operands, and its length tells whether it is extended.
-- Assumes nothing.
use mathlib.Core.Bool.{Bool, true, false, not, cond, ◌||◌}
use mathlib.Core.Path.{◌≡◌, refl, ◌∙◌, ap}
use mathlib.Core.List.{List}
use Prim.Native.Nat.{ℕ, ◌+◌, ◌-◌, ◌*◌, ◌^◌, ◌≤◌, ◌<◌}
use native.Mathlib.Omega.{arith}
use lib.Dec.{eqb, ltb}
use lib.ListN.{length}
use borrow.Author.Tests.{ltb-false, lt-ltb, le-ltb, eqb-true, eq-eqb, ne_eqb, not-false}
use Rattle.operands.specs.Kinds.{is_masked}
use Rattle.frames.specs.Numbers.{byte}
use Rattle.bodies.specs.Body.{opcode_of, count_of, operand_size, place_of, kind_at, any_masked, is_vector_opcode, is_extended, end_of, bits_of, tail_of}
use Rattle.bodies.specs.Refusals.{length_refused, longest_fields}
use Rattle.bodies.specs.Code.{Whole}
use Rattle.bodies.proofs.Picks.{neither_left, neither_right, picked}
use Rattle.bodies.proofs.OperandPlaces.{place_least, place_most, place_after_lem, place_unmasked, place_masked, none_masked}

pub whole : (body : List ℕ) → length_refused body ≡ false → Whole body
unfolding length_refused
whole body e =
    let short = ltb (length body) 14 in
    let other = eqb (length body) (end_of body + cond (is_extended body) 2 0) in
    record {
      fixed = ltb-false _ _ (neither_left short (not other) e);
      stored = eqb-true _ _ (not-false other (neither_right short (not other) e));
    }

-- no right body is longer, as the count is a byte
pub long_refused : (body : List ℕ) → longest_fields < length body → count_of body < 2 ^ 8 → length_refused body ≡ true
unfolding length_refused
long_refused body long small =
    let two = picked (λ (n : ℕ). n ≤ 2) (is_extended body) 2 0 (λ e. omega arith) (λ e. omega arith) in
    rw (le-ltb (length body) 14 (omega arith), ne_eqb (length body) (end_of body + cond (is_extended body) 2 0) (λ e. omega (arith, place_most body (count_of body))))

-- a length that is refused, or not, by what is known of the body
module _ (body : List ℕ) where
  pub short_refused : length body < 14 → length_refused body ≡ true
  unfolding length_refused
  short_refused h = rw (lt-ltb (length body) 14 h)

  module _ (fixed : 14 ≤ length body) where
    pub extended_refused : is_extended body ≡ true → length_refused body ≡ not (eqb (length body) (end_of body + 2))
    unfolding length_refused
    extended_refused e = rw (le-ltb (length body) 14 fixed, e)

    pub plain_refused : is_extended body ≡ false → length_refused body ≡ not (eqb (length body) (end_of body))
    unfolding length_refused
    plain_refused e = let more : end_of body + 0 ≡ end_of body = omega arith in rw (le-ltb (length body) 14 fixed, e, more)

    -- the operands have more bytes than there are
    pub past_refused : length body < end_of body → length_refused body ≡ true
    unfolding length_refused
    past_refused h =
        rw (le-ltb (length body) 14 fixed, ne_eqb (length body) (end_of body + cond (is_extended body) 2 0) (λ e. omega arith))

  pub extended_is : is_extended body ≡ (is_vector_opcode (opcode_of body) || any_masked body (count_of body))
  unfolding is_extended
  extended_is = refl

  -- an opcode of document 02 makes a record extended, and so does a mask
  pub extended_opcode : is_vector_opcode (opcode_of body) ≡ true → is_extended body ≡ true
  unfolding is_extended
  extended_opcode e = rw e

  pub extended_mask : any_masked body (count_of body) ≡ true → is_extended body ≡ true
  unfolding is_extended
  extended_mask e = rw e (second (is_vector_opcode (opcode_of body)))
    where
      second : (t : Bool) → (t || true) ≡ true
      second true = refl
      second false = refl

  pub plain_opcode : is_extended body ≡ false → is_vector_opcode (opcode_of body) ≡ false
  unfolding is_extended
  plain_opcode e = neither_left (is_vector_opcode (opcode_of body)) (any_masked body (count_of body)) e

  pub plain-masks : is_extended body ≡ false → any_masked body (count_of body) ≡ false
  unfolding is_extended
  plain-masks e = neither_right (is_vector_opcode (opcode_of body)) (any_masked body (count_of body)) e

  -- in a record that is not extended, every operand takes five bytes
  pub plain_end : is_extended body ≡ false → end_of body ≡ 14 + 5 * count_of body
  plain_end e = place_unmasked body (count_of body) (plain-masks e)

module _ (body : List ℕ) (w : Whole body) where
  -- the two bytes that an extended record ends in
  pub extended-length : is_extended body ≡ true → length body ≡ end_of body + 2
  extended-length e = w.stored ∙ ap (λ (t : Bool). end_of body + cond t 2 0) e

  pub bits_extended : is_extended body ≡ true → bits_of body ≡ byte body (length body - 2)
  bits_extended e = let l : length body - 2 ≡ end_of body = omega (arith, extended-length e) in rw (e, l)

  pub tail_extended : is_extended body ≡ true → tail_of body ≡ byte body (length body - 1)
  tail_extended e = let l : length body - 1 ≡ end_of body + 1 = omega (arith, extended-length e) in rw (e, l)

  pub plain-length : is_extended body ≡ false → length body ≡ 14 + 5 * count_of body
  plain-length e =
      let l : length body ≡ end_of body + 0 = w.stored ∙ ap (λ (t : Bool). end_of body + cond t 2 0) e in
      omega (arith, plain_end body e)

  pub length_least : 14 + 5 * count_of body ≤ length body
  length_least =
      picked (λ (n : ℕ). length body ≡ end_of body + n → 14 + 5 * count_of body ≤ length body) (is_extended body) 2 0
      (λ e l. omega (arith, place_least body (count_of body)))
      (λ e l. omega (arith, place_least body (count_of body)))
      w.stored

  pub extended_least : is_extended body ≡ true → 16 + 5 * count_of body ≤ length body
  extended_least e = omega (arith, extended-length e, place_least body (count_of body))

  -- so the length tells it
  pub extended_by_length : is_extended body ≡ not (eqb (length body) (14 + 5 * count_of body))
  extended_by_length = by (is_extended body) refl
    where
      by : (t : Bool) → is_extended body ≡ t → t ≡ not (eqb (length body) (14 + 5 * count_of body))
      by true e = rw (ne_eqb (length body) (14 + 5 * count_of body) (λ f. omega (arith, extended_least e)))
      by false e = rw (eq-eqb (length body) (14 + 5 * count_of body) (plain-length e))

  -- and tells where there is no mask
  pub unmasked_by_length : length body ≤ 16 + 5 * count_of body → any_masked body (count_of body) ≡ false
  unmasked_by_length h = by (any_masked body (count_of body)) refl
    where
      by : (t : Bool) → any_masked body (count_of body) ≡ t → t ≡ false
      by true e = absurd (omega (arith, extended-length (extended_mask body e), place_masked body (count_of body) e))
      by false e = refl

  module _ (k : ℕ) (h : k < count_of body) where
    -- the bytes of operand k are there
    pub place_within : place_of body k + operand_size (kind_at body k) ≤ length body
    place_within =
        let l = place_after_lem body k (count_of body) h in
        picked (λ (n : ℕ). length body ≡ end_of body + n → place_of body k + operand_size (kind_at body k) ≤ length body) (is_extended body) 2 0
        (λ e m. omega arith)
        (λ e m. omega arith)
        w.stored

    pub mask_within : is_masked (kind_at body k) ≡ true → place_of body k + 6 ≤ length body
    mask_within e = let s : operand_size (kind_at body k) ≡ 6 = ap (λ (t : Bool). cond t 6 5) e in omega (arith, place_within)

    -- and stand where they would without masks, if there is no room for one
    pub place_by_length : length body ≤ 16 + 5 * count_of body → place_of body k ≡ 14 + 5 * k
    place_by_length s = place_unmasked body k (none_masked body k (count_of body) (omega arith) (unmasked_by_length s))
