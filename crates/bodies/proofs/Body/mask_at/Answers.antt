-- `bodies::Body::mask_at` meets its contract: the mask is the operand's sixth byte.
-- Assumes nothing.
use Rattle.bodies.proofs.InRest.{in_more}
use Rattle.bodies.specs.Code.{fields_by}
use mathlib.Core.Bool.{true, false}
use mathlib.Core.Path.{◌≡◌, sym, ap, ◌∙◌}
use Prim.Native.Nat.{ℕ, ◌+◌}
use native.Mathlib.Omega.{arith}
use Rattle.operands.specs.Kinds.{is_masked}
use Rattle.frames.specs.Numbers.{byte}
use Rattle.bodies.specs.Body.{kind_at}
use Rattle.bodies.proofs.OperandPlaces.{size_least, place_most}
use Rattle.bodies.proofs.Lengths.{place_within, mask_within}
use Rattle.bodies.proofs.Body.mask_at.Goals as goal

pub bounds-self-at : goal.bounds-self-at
bounds-self-at c =
    let b = fields_by c.args.self.now.front c.args.self.now.rest.now in
    let k = c.args.k in
    omega (arith, c.requires.at_value, place_within b c.args.self.now.whole k c.requires.k_bound, size_least (kind_at b k))

pub overflow_add-result : goal.overflow_add-result
overflow_add-result c =
    let b = fields_by c.args.self.now.front c.args.self.now.rest.now in
    let k = c.args.k in
    record { fits = omega (arith, c.requires.at_value, place_most b k, c.ranges.k.fits) }

pub bounds-self-at-then-is_masked : goal.bounds-self-at-then-is_masked
bounds-self-at-then-is_masked c =
    let b = fields_by c.args.self.now.front c.args.self.now.rest.now in
    let k = c.args.k in
    let m : is_masked (kind_at b k) ≡ true = ap (λ (n : ℕ). is_masked (byte b n)) (sym c.requires.at_value) ∙ (sym c.is_masked.ensures ∙ c.if-is_masked.true) in
    omega (arith, c.requires.at_value, mask_within b c.args.self.now.whole k c.requires.k_bound m)

pub returns-then-is_masked : goal.returns-then-is_masked
returns-then-is_masked c =
    let b = fields_by c.args.self.now.front c.args.self.now.rest.now in
    let k = c.args.k in
    let m : is_masked (kind_at b k) ≡ true = ap (λ (n : ℕ). is_masked (byte b n)) (sym c.requires.at_value) ∙ (sym c.is_masked.ensures ∙ c.if-is_masked.true) in
    rw m (ap (λ (n : ℕ). byte b n) (sym (in_more c.args.at 5)) ∙ ap (λ (n : ℕ). byte b (n + 5)) c.requires.at_value)

pub returns-else-is_masked : goal.returns-else-is_masked
returns-else-is_masked c =
    let b = fields_by c.args.self.now.front c.args.self.now.rest.now in
    let k = c.args.k in
    let m : is_masked (kind_at b k) ≡ false = ap (λ (n : ℕ). is_masked (byte b n)) (sym c.requires.at_value) ∙ (sym c.is_masked.ensures ∙ c.if-is_masked.false) in
    rw m
