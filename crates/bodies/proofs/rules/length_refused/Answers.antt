-- `bodies::rules::length_refused` meets its contract: while none has a mask, operand k stands after five bytes for each.
-- Assumes nothing.
use mathlib.Core.Bool.{Bool, true, false, ◌||◌}
use mathlib.Core.Path.{◌≡◌, sym, ap, ap₂, ◌∙◌}
use Prim.Native.Nat.{ℕ, ◌+◌, ◌*◌}
use native.Mathlib.Omega.{arith}
use lib.ListN.{length}
use Rattle.operands.specs.Kinds.{is_masked}
use Rattle.frames.specs.Numbers.{byte}
use Rattle.bodies.specs.Code.{fields_by, in_fields}
use Rattle.bodies.specs.Body.{opcode_of, count_of, kind_at, any_masked, is_extended, end_of, is_vector_opcode}
use Rattle.bodies.proofs.InRest.{eqb_more}
use Rattle.bodies.proofs.OperandPlaces.{place_least, place_unmasked, masked_first, masked_step}
use Rattle.bodies.proofs.Lengths.{short_refused, extended_opcode, extended_is, extended_refused, plain_refused, past_refused}
use Rattle.bodies.proofs.rules.length_refused.Goals as goal

pub returns-then-rest-lt10 : goal.returns-then-rest-lt10
returns-then-rest-lt10 c = sym (short_refused (fields_by c.args.front c.args.rest.now) (omega arith))

pub returns-then-rest-end : goal.returns-then-rest-end
returns-then-rest-end c =
    let b = fields_by c.args.front c.args.rest.now in
    sym (past_refused b (omega arith) (omega (arith, place_least b (count_of b))))

pub loop-k-init : goal.loop-k-init
loop-k-init c = masked_first (fields_by c.args.front c.args.rest.now)

pub loop-k-preserved : goal.loop-k-preserved
loop-k-preserved c =
    let b = fields_by c.args.front c.args.rest.now in
    let k = c.loop-k.k in
    let none = c.loop-k.invariant in
    let first : 14 + 5 * k ≡ in_fields (10 + 5 * k) = omega arith in
    let m : is_masked (kind_at b k) ≡ false = ap (λ (n : ℕ). is_masked (byte b n)) (place_unmasked b k none ∙ first) ∙ (sym c.is_masked.ensures ∙ c.if-is_masked.false) in
    masked_step b k ∙ ap₂ (λ (s t : Bool). s || t) none m

pub returns-then-is_vector_opcode : goal.returns-then-is_vector_opcode
returns-then-is_vector_opcode c =
    let b = fields_by c.args.front c.args.rest.now in
    let all : c.loop-k.k ≡ count_of b = omega arith in
    let none : any_masked b (count_of b) ≡ false = ap (λ (n : ℕ). any_masked b n) (sym all) ∙ c.loop-k.invariant in
    let v : is_vector_opcode (opcode_of b) ≡ true = sym (c.is_vector_opcode.ensures ∙ ap (λ (n : ℕ). is_vector_opcode n) c.opcode.ensures) ∙ c.if-is_vector_opcode.true in
    let end : end_of b + 2 ≡ in_fields (10 + 5 * count_of b + 2) = omega (arith, place_unmasked b (count_of b) none) in
    rw (extended_refused b (omega arith) (extended_opcode b v), end, c.byte_at-count.ensures.value, eqb_more (length c.args.rest.now) (10 + 5 * count_of b + 2))

pub returns-else-is_vector_opcode : goal.returns-else-is_vector_opcode
returns-else-is_vector_opcode c =
    let b = fields_by c.args.front c.args.rest.now in
    let all : c.loop-k.k ≡ count_of b = omega arith in
    let none : any_masked b (count_of b) ≡ false = ap (λ (n : ℕ). any_masked b n) (sym all) ∙ c.loop-k.invariant in
    let v : is_vector_opcode (opcode_of b) ≡ false = sym (c.is_vector_opcode.ensures ∙ ap (λ (n : ℕ). is_vector_opcode n) c.opcode.ensures) ∙ c.if-is_vector_opcode.false in
    let e : is_extended b ≡ false = extended_is b ∙ ap₂ (λ (s t : Bool). s || t) v none in
    let end : end_of b ≡ in_fields (10 + 5 * count_of b) = omega (arith, place_unmasked b (count_of b) none) in
    rw (plain_refused b (omega arith) e, end, c.byte_at-count.ensures.value, eqb_more (length c.args.rest.now) (10 + 5 * count_of b))
