-- `compared::steps::step` meets its contract: the step of each stage.
-- Assumes nothing.
use mathlib.Core.Path.{sym}
use Rattle.compared.proofs.Stepping.{steps_done, steps_at}
use Rattle.compared.proofs.steps.step.Goals as goal

pub returns-in-Done : goal.returns-in-Done
returns-in-Done c = steps_at (sym c.in-Done.is) (steps_done c.requires.within)
