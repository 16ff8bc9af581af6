-- `bodies::rules::length_refused` meets its contract: while none has a mask, operand k stands after five bytes for each.
-- Assumes nothing.
use mathlib.Core.Bool.{false}
use mathlib.Core.Path.{◌≡◌}
use Rattle.bodies.specs.Code.{fields_by}
use Rattle.bodies.specs.Body.{any_masked}
use Rattle.bodies.proofs.rules.length_refused.Given as goal

abbrev pub invariant-loop-k : goal.invariant-loop-k
invariant-loop-k l = any_masked (fields_by l.front l.rest) l.k ≡ false
