-- `bodies::Body::extended_operand_at` meets its contract: where the operand is stored its bytes are there.
-- Assumes nothing.
use mathlib.Core.Path.{refl}
use borrow.Author.Tests.{lt-ltb, le-ltb}
use Rattle.bodies.specs.Body.{count_of}
use Rattle.bodies.specs.Code.{fields_by}
use Rattle.bodies.specs.Decoding.{operand_at}
use Rattle.bodies.proofs.InRest.{in_more}
use Rattle.bodies.proofs.Body.extended_operand_at.Goals as goal

pub returns-in_default : goal.returns-in_default
unfolding operand_at
returns-in_default c =
    rw (le-ltb c.args.k (count_of (fields_by c.args.self.now.front c.args.self.now.rest.now)) (c.in_default.ensures.none refl))

pub returns : goal.returns
unfolding operand_at
returns c =
    let at = c.in-Some.at in
    let stands = c.in-Some.ensures.some in
    rw (lt-ltb _ _ stands.stored, ← c.imm.ensures, ← c.disp.ensures, ← c.mask_at.ensures, ← stands.place, in_more at 1, in_more at 2, in_more at 3, in_more at 4) c.operand.ensures
