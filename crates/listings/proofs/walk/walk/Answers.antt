-- `listings::walk::walk` meets its contract: each step takes what is in front, and after the last nothing is left.
-- Assumes nothing.
use mathlib.Core.Path.{refl}
use native.Mathlib.Omega.{arith}
use Rattle.listings.proofs.Walking.{front-room, total-number, walked, walked_through}
use Rattle.listings.proofs.walk.walk.Goals as goal

pub put_next-next-requires-clause-room : goal.put_next-next-requires-clause-room
put_next-next-requires-clause-room c = front-room c.loop-at.invariant.0 c.requires.walkable c.loop-at-test.true c.loop-at.invariant.1

pub overflow_add-total : goal.overflow_add-total
overflow_add-total c = omega (arith, total-number c.loop-at.invariant.0 c.requires.walkable c.loop-at-test.true c.loop-at.invariant.1 c.put_next-next.ensures)

pub loop-at-preserved : goal.loop-at-preserved
loop-at-preserved c = (walked c.loop-at.invariant.0 c.requires.walkable c.loop-at-test.true c.loop-at.invariant.1 c.put_next-next.ensures refl, c.place_of-place.ensures)

pub returns : goal.returns
returns c = walked_through c.loop-at.invariant.0 c.loop-at-test.false
