-- `listings::record::of_no_bytes` meets its contract.
-- Assumes nothing.
use mathlib.Core.Path.{sym, ◌∙◌}
use Rattle.records.proofs.Empty.{empty_answer}
use Rattle.listings.proofs.record.of_no_bytes.Goals as goal

pub returns-then-asked_refused : goal.returns-then-asked_refused
returns-then-asked_refused c = rw (empty_answer c.args.asked, sym c.asked_refused.ensures ∙ c.if-asked_refused.true)

pub returns-else-asked_refused : goal.returns-else-asked_refused
returns-else-asked_refused c = rw (empty_answer c.args.asked, sym c.asked_refused.ensures ∙ c.if-asked_refused.false)
