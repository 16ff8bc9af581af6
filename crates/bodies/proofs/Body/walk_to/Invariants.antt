-- `bodies::Body::walk_to` meets its contract: after as many operands as were counted, the place is that of the next.
-- Assumes nothing.
use mathlib.Core.Path.{◌≡◌}
use Rattle.bodies.specs.Code.{fields_by, in_fields}
use Rattle.bodies.specs.Body.{place_of}
use Rattle.bodies.proofs.Body.walk_to.Given as goal

abbrev pub invariant-loop : goal.invariant-loop
invariant-loop l = in_fields l.at ≡ place_of (fields_by l.self.front l.self.rest.now) l.counter
