-- `located::steps::step` meets its contract: each stage has its step.
-- Assumes nothing.
use Rattle.std.proofs.Common.{sym}
use Rattle.located.proofs.Going.{steps_none, steps_at}
use Rattle.located.proofs.steps.step.Goals as goal

pub returns-in-Version : goal.returns-in-Version
returns-in-Version c = steps_at (sym c.in-Version.is) c.step_version.ensures

pub returns-in-Frames : goal.returns-in-Frames
returns-in-Frames c = steps_at (sym c.in-Frames.is) c.step_frame.ensures

pub returns-in-Done : goal.returns-in-Done
returns-in-Done c = steps_at (sym c.in-Done.is) (steps_none tt)
