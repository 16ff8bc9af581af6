-- `streams::pass::pass` meets its contract: that of a pass over the stages.
-- Assumes nothing.
use Rattle.streams.proofs.Passing.{passes}
use Rattle.streams.proofs.pass.pass.Goals as goal

pub returns : goal.returns
returns c = passes c.pass.ensures
