-- The step of a listing's lines meets the contract of a step.
-- Assumes nothing.
use Rattle.streams.proofs.Passing.{step_on}
use Rattle.streams.proofs.pass.StageStages.step.Goals as goal

pub returns : goal.returns
returns c = step_on c.requires.alive c.step.ensures
