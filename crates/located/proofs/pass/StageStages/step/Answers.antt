-- The step of records with their places meets the contract of a step.
-- Assumes nothing.
use Rattle.located.proofs.Passing.{step_on}
use Rattle.located.proofs.pass.StageStages.step.Goals as goal

pub returns : goal.returns
returns c = step_on c.step.ensures
