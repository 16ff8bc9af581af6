-- `bodies::Body::place_at` meets its contract: where there is no room for a mask, each operand before it has five bytes.
-- Assumes nothing.
use Rattle.bodies.specs.Code.{fields_by}
use native.Mathlib.Omega.{arith}
use Rattle.bodies.specs.Body.{kind_at}
use Rattle.bodies.proofs.OperandPlaces.{size_least}
use Rattle.bodies.proofs.Lengths.{place_within, place_by_length}
use Rattle.bodies.proofs.Body.place_at.Goals as goal

pub returns-then-self-byte_at : goal.returns-then-self-byte_at
returns-then-self-byte_at c =
    let b = fields_by c.args.self.now.front c.args.self.now.rest.now in
    let k = c.args.k in
    let e = place_by_length b c.args.self.now.whole k c.requires.k_bound (omega (arith, c.if-self-byte_at.true, c.byte_at.ensures.value)) in
    record { result_value = omega (arith, e); result_in_bounds = omega (arith, e, place_within b c.args.self.now.whole k c.requires.k_bound, size_least (kind_at b k)) }

pub returns-else-self-byte_at : goal.returns-else-self-byte_at
returns-else-self-byte_at c =
    let b = fields_by c.args.self.now.front c.args.self.now.rest.now in
    let k = c.args.k in
    record { result_value = c.walk_to.ensures; result_in_bounds = omega (arith, c.walk_to.ensures, place_within b c.args.self.now.whole k c.requires.k_bound, size_least (kind_at b k)) }
