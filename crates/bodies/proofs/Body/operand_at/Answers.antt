-- `bodies::Body::operand_at` meets its contract: below the count the operand's bytes are there, at document 01's place where the record
-- is not extended.
-- Assumes nothing.
use Rattle.bodies.proofs.InRest.{in_more}
use mathlib.Core.Path.{◌≡◌}
use Prim.Native.Nat.{◌+◌, ◌*◌}
use Rattle.bodies.specs.Code.{fields_by, in_fields}
use mathlib.Core.Path.{sym, ◌∙◌}
use native.Mathlib.Omega.{arith}
use borrow.Author.Tests.{lt-ltb, le-ltb}
use Rattle.bodies.specs.Body.{count_of}
use Rattle.bodies.specs.Decoding.{operand_at}
use Rattle.bodies.specs.Document01.{old_operand_at}
use Rattle.bodies.proofs.Lengths.{length_least}
use Rattle.bodies.proofs.OldKept.{old_kept}
use Rattle.bodies.proofs.Body.operand_at.Goals as goal

pub bounds-self-at : goal.bounds-self-at
bounds-self-at c = omega (arith, length_least (fields_by c.args.self.now.front c.args.self.now.rest.now) c.args.self.now.whole)

pub bounds-self-at-then-k-count : goal.bounds-self-at-then-k-count
bounds-self-at-then-k-count c = omega (arith, length_least (fields_by c.args.self.now.front c.args.self.now.rest.now) c.args.self.now.whole)

pub bounds-self-at-then-k-count-2 : goal.bounds-self-at-then-k-count-2
bounds-self-at-then-k-count-2 c = omega (arith, length_least (fields_by c.args.self.now.front c.args.self.now.rest.now) c.args.self.now.whole)

pub bounds-self-at-then-k-count-3 : goal.bounds-self-at-then-k-count-3
bounds-self-at-then-k-count-3 c = omega (arith, length_least (fields_by c.args.self.now.front c.args.self.now.rest.now) c.args.self.now.whole)

pub bounds-self-at-then-k-count-4 : goal.bounds-self-at-then-k-count-4
bounds-self-at-then-k-count-4 c = omega (arith, length_least (fields_by c.args.self.now.front c.args.self.now.rest.now) c.args.self.now.whole)

pub returns-then-is_extended : goal.returns-then-is_extended
returns-then-is_extended c = c.extended_operand_at.ensures

pub returns-else-is_extended : goal.returns-else-is_extended
unfolding old_operand_at
returns-else-is_extended c = let a = c.args in
    let body = fields_by a.self.now.front a.self.now.rest.now in
    let below = lt-ltb a.k (count_of body) (omega (arith, c.count.ensures, c.if-k-count.true)) in
    let first : 14 + 5 * a.k ≡ in_fields (10 + 5 * a.k) = omega arith in
    rw ((old_kept body (sym c.is_extended.ensures ∙ c.if-is_extended.false)).operands a.k, below, first, in_more (10 + 5 * a.k) 1, in_more (10 + 5 * a.k) 2, in_more (10 + 5 * a.k) 3, in_more (10 + 5 * a.k) 4, ← c.imm.ensures, ← c.disp.ensures) c.operand.ensures

pub returns-else-k-count : goal.returns-else-k-count
unfolding operand_at
returns-else-k-count c =
    let a = c.args in
    rw (le-ltb a.k (count_of (fields_by a.self.now.front a.self.now.rest.now)) (omega (arith, c.count.ensures, c.if-k-count.false)))
