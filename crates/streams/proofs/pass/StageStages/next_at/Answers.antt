-- `streams::pass::StageStages::next_at` meets its contract, by cases.
-- Assumes nothing.
use borrow.Author.Tests.{lt-ltb, le-ltb}
use Rattle.streams.proofs.pass.StageStages.next_at.Goals as goal

pub returns-then-held-gt0 : goal.returns-then-held-gt0
returns-then-held-gt0 c = rw (c.in-Frames.is, c.if-ended-2.true, lt-ltb 0 c.args.held c.if-held-gt0.true)

pub returns-else-held-gt0 : goal.returns-else-held-gt0
returns-else-held-gt0 c = rw (c.in-Frames.is, c.if-ended-2.true, le-ltb 0 c.args.held c.if-held-gt0.false)
