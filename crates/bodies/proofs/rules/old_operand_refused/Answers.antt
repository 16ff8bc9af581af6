-- `bodies::rules::old_operand_refused` meets its contract: below the count the operand's five bytes are there.
-- Assumes nothing.
use mathlib.Core.Path.{◌≡◌}
use Prim.Native.Nat.{◌+◌, ◌*◌}
use Rattle.bodies.proofs.InRest.{in_more}
use Rattle.bodies.specs.Code.{fields_by, in_fields}
use Rattle.bodies.specs.Refusals.{segment_kept, scale_kept}
use Rattle.bodies.specs.Document01.{old_operand_refused}
use borrow.Author.Tests.{lt-ltb, le-ltb}
use Rattle.bodies.specs.Body.{count_of}
use native.Mathlib.Omega.{arith}
use Rattle.bodies.proofs.rules.old_operand_refused.Goals as goal

pub returns-then-k-byte_at : goal.returns-then-k-byte_at
unfolding old_operand_refused segment_kept scale_kept
returns-then-k-byte_at c =
    let a = c.args in
    let first : 14 + 5 * a.k ≡ in_fields (10 + 5 * a.k) = omega arith in
    rw (lt-ltb a.k (count_of (fields_by a.front a.rest.now)) (omega arith), first, in_more (10 + 5 * a.k) 1, in_more (10 + 5 * a.k) 2, in_more (10 + 5 * a.k) 3, in_more (10 + 5 * a.k) 4) (cc)

pub returns-else-k-byte_at : goal.returns-else-k-byte_at
unfolding old_operand_refused segment_kept scale_kept
returns-else-k-byte_at c = let a = c.args in rw (le-ltb a.k (count_of (fields_by a.front a.rest.now)) (omega arith))
