-- `streams::stream::skipped_for` meets its contract, by its one test.
-- Assumes nothing.
use mathlib.Core.Path.{sym, ◌∙◌}
use Rattle.streams.proofs.stream.skipped_for.Goals as goal

pub returns-then-asked_refused : goal.returns-then-asked_refused
returns-then-asked_refused c = rw (sym c.asked_refused.ensures ∙ c.if-asked_refused.true)

pub returns-else-asked_refused : goal.returns-else-asked_refused
returns-else-asked_refused c = rw (sym c.asked_refused.ensures ∙ c.if-asked_refused.false)
