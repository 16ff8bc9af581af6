-- A body that document 01's own tests do not refuse is not extended, and is not refused.
-- Assumes nothing.
use mathlib.Core.Path.{◌≡◌, refl, ◌∙◌}
use mathlib.Core.Bool.{Bool, true, false, not, cond, ◌&&◌, false≢true}
use mathlib.Core.List.{List}
use Prim.Native.Nat.{ℕ, zero, suc, ◌+◌, ◌*◌, ◌≤◌, ◌<◌}
use native.Mathlib.Omega.{arith}
use lib.Dec.{leb, ltb}
use borrow.Author.Tests.{leb-true, lt-leb, lt-ltb, ltb-false, not-true, not-false}
use Rattle.operands.specs.Kinds.{is_masked}
use Rattle.frames.specs.Numbers.{byte}
use Rattle.bodies.specs.Body.{opcode_of, count_of, any_masked, is_extended}
use Rattle.bodies.specs.Code.{Whole, body_answer}
use Rattle.bodies.specs.Refusals.{length_refused, field_refused}
use Rattle.bodies.specs.Document01.{old_length_refused, old_operand_kept, old_operand_refused, old_field_refused}
use Rattle.bodies.proofs.Picks.{both_left, both_right, neither_left, neither_right}
use Rattle.bodies.proofs.OperandPlaces.{place_unmasked}
use Rattle.bodies.proofs.Lengths.{whole}
use Rattle.bodies.proofs.OldKept.{old_kept}

-- an operand that is stored and not refused has a kind up to 16, so no mask
unmasked_kind : (stored kept : Bool) (kind : ℕ) → stored ≡ true → (stored && not kept) ≡ false → (kept ≡ true → kind ≤ 16) → is_masked kind ≡ false
unmasked_kind true kept kind s e f = rw (lt-leb 17 kind (let h = f (not-false kept e) in omega (arith, h)))
unmasked_kind false kept kind s e f = absurd (false≢true s)

kept_kind : (kind segment first second scale : ℕ) → old_operand_kept kind segment first second scale ≡ true → kind ≤ 16
kept_kind kind segment first second scale e = leb-true kind 16 (search (both_left, both_right, e) depth 12)

module _ (body : List ℕ) (fields : old_field_refused body ≡ false) where
  opcode_below : leb 154 (opcode_of body) ≡ false
  unfolding old_field_refused
  opcode_below = search (neither_left, neither_right, fields) depth 12

  few : count_of body ≤ 4
  unfolding old_field_refused
  few = ltb-false 4 (count_of body) (search (neither_left, neither_right, fields) depth 12)

  abbrev kind : ℕ → ℕ
  kind k = byte body (14 + 5 * k)

  -- by the rule of operand k
  kind_by : (k : ℕ) → k < count_of body → old_operand_refused body k ≡ false → is_masked (kind k) ≡ false
  unfolding old_operand_refused
  kind_by k h e =
      let segment = byte body (14 + 5 * k + 1) in
      let first = byte body (14 + 5 * k + 2) in
      let second = byte body (14 + 5 * k + 3) in
      let scale = byte body (14 + 5 * k + 4) in
      unmasked_kind (ltb k (count_of body)) (old_operand_kept (kind k) segment first second scale) (kind k) (lt-ltb k (count_of body) h) e
      (kept_kind (kind k) segment first second scale)

  kind_unmasked : (k : ℕ) → k < count_of body → is_masked (kind k) ≡ false
  unfolding old_field_refused
  kind_unmasked zero h = kind_by 0 h (search (neither_left, neither_right, fields) depth 12)
  kind_unmasked (suc zero) h = kind_by 1 h (search (neither_left, neither_right, fields) depth 12)
  kind_unmasked (suc (suc zero)) h = kind_by 2 h (search (neither_left, neither_right, fields) depth 12)
  kind_unmasked (suc (suc (suc zero))) h = kind_by 3 h (search (neither_left, neither_right, fields) depth 12)
  kind_unmasked (suc (suc (suc (suc k)))) h = absurd (let l = few in let z : ⊥ = omega (arith, l, h) in z)

  none_masked : (n : ℕ) → n ≤ count_of body → any_masked body n ≡ false
  unfolding any_masked
  none_masked zero h = refl
  none_masked (suc n) h =
      let before = none_masked n (omega (arith, h)) in
      rw (before, place_unmasked body n before) (kind_unmasked n (omega (arith, h)))

  not_extended : is_extended body ≡ false
  unfolding is_extended
  not_extended = rw (opcode_below, none_masked (count_of body) (omega arith))

  module _ (lengths : old_length_refused body ≡ false) where
    pub old_answer : body_answer body ≡ 0
    old_answer = rw ((old_kept body not_extended).lengths ∙ lengths, (old_kept body not_extended).fields ∙ fields)

-- the two tests together
pub old_kept_answer : (body : List ℕ) → (not (old_length_refused body) && not (old_field_refused body)) ≡ true → body_answer body ≡ 0
old_kept_answer body both =
    let lengths = not (old_length_refused body) in
    let fields = not (old_field_refused body) in
    old_answer body (not-true (old_field_refused body) (both_right lengths fields both)) (not-true (old_length_refused body) (both_left lengths fields both))

pub answer_length : (body : List ℕ) → length_refused body ≡ true → body_answer body ≡ 2
answer_length body e = rw e

module _ (body : List ℕ) (l : length_refused body ≡ false) where
  pub answer_field : field_refused body ≡ true → body_answer body ≡ 3
  answer_field e = rw (l, e)

  pub answer_neither : field_refused body ≡ false → body_answer body ≡ 0
  answer_neither e = rw (l, e)

-- and back
answer_kept : (p q : Bool) → ◌≡◌ {A = ℕ} (cond p 2 (cond q 3 0)) 0 → (p ≡ false) × (q ≡ false)
answer_kept true q e = absurd (let z : ◌≡◌ {A = ℕ} 2 0 = e in omega arith)
answer_kept false true e = absurd (let z : ◌≡◌ {A = ℕ} 3 0 = e in omega arith)
answer_kept false false e = (refl, refl)

-- so a body whose answer is 0 has the right length
pub accepted_whole : (body : List ℕ) → body_answer body ≡ 0 → Whole body
accepted_whole body e = whole body (answer_kept (length_refused body) (field_refused body) e).0

pub nothing_refused : (body : List ℕ) → body_answer body ≡ 0 → (length_refused body ≡ false) × (field_refused body ≡ false)
nothing_refused body e = answer_kept (length_refused body) (field_refused body) e
