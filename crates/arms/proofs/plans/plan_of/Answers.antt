-- `arms::plans::plan_of` meets its contract: a record that takes the general path has that path's plan, with broadcasts and tail where it
-- is extended.
-- Assumes nothing.
use Rattle.bodies.specs.Code.{fields_by}
use Rattle.bodies.specs.Decoding.{instruction_of}
use Rattle.arms.proofs.Results.{results_equal}
use Rattle.arms.proofs.Mmword.{general_at_8}
use Rattle.arms.proofs.Over16.{plan_of-general, plan_of_old}
use Rattle.arms.proofs.plans.plan_of.Goals as goal

pub returns-then-is_extended : goal.returns-then-is_extended
unfolding instruction_of
returns-then-is_extended c = let a = c.args in
    let i = instruction_of (fields_by a.body.now.front a.body.now.rest.now) in
    let path = results_equal c.is_general.ensures c.if-is_general.true in
    rw (c.decorated.ensures, c.general-plan.ensures, c.is_mmword.ensures, c.size-size.ensures, general_at_8) (plan_of-general a.arm i path)

pub returns-else-is_extended : goal.returns-else-is_extended
unfolding instruction_of
returns-else-is_extended c = let a = c.args in
    let fields = fields_by a.body.now.front a.body.now.rest.now in
    let path = results_equal c.is_general.ensures c.if-is_general.true in
    rw (c.general-plan.ensures, c.is_mmword.ensures, c.size-size.ensures, general_at_8) (plan_of_old a.arm fields (results_equal c.is_extended.ensures c.if-is_extended.false) c.requires.rest_value path)
