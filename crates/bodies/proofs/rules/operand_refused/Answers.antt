-- `bodies::rules::operand_refused` meets its contract: where the operand is stored its bytes are there, and each test is what its callee says.
-- Assumes nothing.
use mathlib.Core.Path.{refl}
use borrow.Author.Tests.{lt-ltb, le-ltb}
use Rattle.bodies.specs.Body.{count_of}
use Rattle.bodies.specs.Code.{fields_by}
use Rattle.bodies.specs.Refusals.{operand_refused}
use Rattle.bodies.proofs.InRest.{in_more}
use Rattle.bodies.proofs.rules.operand_refused.Goals as goal

pub returns-in_default : goal.returns-in_default
unfolding operand_refused
returns-in_default c =
    rw (le-ltb c.args.k (count_of (fields_by c.args.body.now.front c.args.body.now.rest.now)) (c.in_default.ensures.none refl))

pub returns : goal.returns
unfolding operand_refused
returns c =
    let at = c.in-Some.at in
    let stands = c.in-Some.ensures.some in
    rw (lt-ltb _ _ stands.stored, ← c.requires.extended_value, ← c.requires.scatters_value, ← c.mask_at.ensures, ← stands.place, in_more at 1, in_more at 2, in_more at 3, in_more at 4, ← c.form_of-form.ensures, ← c.is_masked.ensures, ← c.segment_kept-segment.ensures, ← c.first_kept-first.ensures, ← c.second_kept-second.ensures, ← c.scale_kept-scale.ensures, ← c.mask_kept-mask.ensures)
