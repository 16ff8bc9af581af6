-- `bodies::Body::walk_to` meets its contract: after as many operands as were counted, the place is that of the next.
-- Assumes nothing.
use Rattle.bodies.specs.Code.{fields_by, in_fields}
use mathlib.Core.Path.{◌≡◌, sym, ap, ◌∙◌}
use Prim.Native.Nat.{ℕ}
use native.Mathlib.Omega.{arith}
use Rattle.frames.specs.Numbers.{byte}
use Rattle.bodies.specs.Body.{operand_size, place_after, place_of, kind_at}
use Rattle.bodies.proofs.InRest.{in_more}
use Rattle.bodies.proofs.OperandPlaces.{size_least, place_first, place_step, place_most}
use Rattle.bodies.proofs.Lengths.{place_within}
use Rattle.bodies.proofs.Body.walk_to.Goals as goal

pub loop-init : goal.loop-init
loop-init c = sym (place_first (fields_by c.args.self.now.front c.args.self.now.rest.now))

pub place_after-at-requires : goal.place_after-at-requires
place_after-at-requires c =
    let b = fields_by c.args.self.now.front c.args.self.now.rest.now in
    let i = c.loop.counter in
    record { at_in_bounds = omega (arith, c.loop.invariant, place_within b c.args.self.now.whole i (omega arith), size_least (kind_at b i)); at_bound = omega (arith, c.loop.invariant, place_most b i) }

pub loop-preserved : goal.loop-preserved
loop-preserved c =
    let b = fields_by c.args.self.now.front c.args.self.now.rest.now in
    let at = c.loop.at in
    ap in_fields c.place_after-at.ensures ∙ (sym (in_more at (operand_size (byte c.args.self.now.rest.now at))) ∙ (ap (λ (n : ℕ). place_after b n) c.loop.invariant ∙ sym (place_step b c.loop.counter)))

pub returns : goal.returns
returns c =
    let b = fields_by c.args.self.now.front c.args.self.now.rest.now in
    let last : c.loop.counter ≡ c.args.k = omega arith in
    c.loop.invariant ∙ ap (λ (n : ℕ). place_of b n) last
