-- `located::pass::pass` meets its contract: that of a pass over the stages.
-- Assumes nothing.
use Rattle.located.proofs.Passing.{passes}
use Rattle.located.proofs.pass.pass.Goals as goal

pub returns : goal.returns
returns c = passes c.pass.ensures
