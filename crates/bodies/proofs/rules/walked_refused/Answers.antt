-- `bodies::rules::walked_refused` meets its contract: after as many operands as were counted, the place is that of the next, and it is
-- known whether one had a mask.
-- Assumes nothing.
use mathlib.Core.Bool.{Bool, true, false, ◌||◌}
use mathlib.Core.Path.{◌≡◌, sym, ap, ap₂, ◌∙◌}
use Prim.Native.Nat.{ℕ, ◌+◌}
use native.Mathlib.Omega.{arith}
use lib.ListN.{length}
use Rattle.operands.specs.Kinds.{is_masked}
use Rattle.frames.specs.Numbers.{byte}
use Rattle.bodies.specs.Code.{fields_by, in_fields}
use Rattle.bodies.specs.Body.{count_of, operand_size, place_after, place_of, kind_at, any_masked, is_extended, end_of, is_vector_opcode}
use Rattle.bodies.proofs.InRest.{in_more, eqb_more}
use Rattle.bodies.proofs.OperandPlaces.{size_least, place_first, place_step, place_most, place_after_lem, masked_first, masked_step}
use Rattle.bodies.proofs.Lengths.{extended_is, extended_refused, plain_refused, past_refused}
use Rattle.bodies.proofs.rules.walked_refused.Goals as goal

pub loop-init : goal.loop-init
loop-init c =
    let b = fields_by c.args.front c.args.rest.now in
    record { mask_known = sym (masked_first b); place_known = sym (place_first b) }

pub returns-then-rest-at : goal.returns-then-rest-at
returns-then-rest-at c =
    let b = fields_by c.args.front c.args.rest.now in
    let k = c.loop.counter in
    sym (past_refused b (omega arith) (omega (arith, c.loop.invariant.place_known, size_least (kind_at b k), place_after_lem b k (count_of b) (omega arith))))

pub place_after-at-requires-clause-at_bound : goal.place_after-at-requires-clause-at_bound
place_after-at-requires-clause-at_bound c =
    omega (arith, c.loop.invariant.place_known, place_most (fields_by c.args.front c.args.rest.now) c.loop.counter)

pub loop-preserved : goal.loop-preserved
loop-preserved c =
    let b = fields_by c.args.front c.args.rest.now in
    let k = c.loop.counter in
    let e = c.loop.invariant.place_known in
    record {
      mask_known = ap₂ (λ (s t : Bool). s || t) c.loop.invariant.mask_known (c.is_masked-masked.ensures ∙ ap (λ (n : ℕ). is_masked (byte b n)) e) ∙ sym (masked_step b k);
      place_known = ap in_fields c.place_after-at.ensures ∙ (sym (in_more c.loop.at (operand_size (byte c.args.rest.now c.loop.at))) ∙ (ap (λ (n : ℕ). place_after b n) e ∙ sym (place_step b k)));
    }

pub overflow_add-result : goal.overflow_add-result
overflow_add-result c =
    record { fits = omega (arith, c.loop.invariant.place_known, place_most (fields_by c.args.front c.args.rest.now) c.loop.counter) }

pub returns-then-is_vector_opcode-masked : goal.returns-then-is_vector_opcode-masked
returns-then-is_vector_opcode-masked c =
    let b = fields_by c.args.front c.args.rest.now in
    let all : c.loop.counter ≡ count_of b = omega arith in
    let end : in_fields c.loop.at ≡ end_of b = c.loop.invariant.place_known ∙ ap (λ (n : ℕ). place_of b n) all in
    let e : is_extended b ≡ true = extended_is b ∙ (sym (ap₂ (λ (s t : Bool). s || t) (c.is_vector_opcode.ensures ∙ ap (λ (n : ℕ). is_vector_opcode n) c.opcode.ensures) (c.loop.invariant.mask_known ∙ ap (λ (n : ℕ). any_masked b n) all)) ∙ c.if-is_vector_opcode-masked.true) in
    rw (extended_refused b (omega arith) e, ← end, in_more c.loop.at 2, eqb_more (length c.args.rest.now) (c.loop.at + 2))

pub returns-else-is_vector_opcode-masked : goal.returns-else-is_vector_opcode-masked
returns-else-is_vector_opcode-masked c =
    let b = fields_by c.args.front c.args.rest.now in
    let all : c.loop.counter ≡ count_of b = omega arith in
    let end : in_fields c.loop.at ≡ end_of b = c.loop.invariant.place_known ∙ ap (λ (n : ℕ). place_of b n) all in
    let e : is_extended b ≡ false = extended_is b ∙ (sym (ap₂ (λ (s t : Bool). s || t) (c.is_vector_opcode.ensures ∙ ap (λ (n : ℕ). is_vector_opcode n) c.opcode.ensures) (c.loop.invariant.mask_known ∙ ap (λ (n : ℕ). any_masked b n) all)) ∙ c.if-is_vector_opcode-masked.false) in
    rw (plain_refused b (omega arith) e, ← end, eqb_more (length c.args.rest.now) c.loop.at)
