-- `answers::print_text` meets its contract, by its one test.
-- Assumes nothing.
use mathlib.Core.Path.{refl}
use Rattle.answers.proofs.Outcomes.{text_printed, text_refused}
use Rattle.answers.proofs.print_text.Goals as goal

pub returns-then-text-printed : goal.returns-then-text-printed
returns-then-text-printed c = text_refused c.args.printed.now refl c.if-text-printed.true

pub returns : goal.returns
returns c = text_printed c.args.printed.now c.if-text-printed.false c.put_bytes.ensures
