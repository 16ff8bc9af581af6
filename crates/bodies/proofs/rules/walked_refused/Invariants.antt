-- `bodies::rules::walked_refused` meets its contract: after as many operands as were counted, the place is that of the next, and it is
-- known whether one had a mask.
-- Assumes nothing.
use mathlib.Core.Path.{◌≡◌}
use Rattle.bodies.specs.Code.{fields_by, in_fields}
use Rattle.bodies.specs.Body.{place_of, any_masked}
use Rattle.bodies.proofs.rules.walked_refused.Given as goal

abbrev pub invariant-loop : goal.invariant-loop
invariant-loop l =
    let b = fields_by l.front l.rest in
    record { mask_known : l.masked ≡ any_masked b l.counter; place_known : in_fields l.at ≡ place_of b l.counter }
