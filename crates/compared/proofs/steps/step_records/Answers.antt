-- `compared::steps::step_records` meets its contract: bytes are wanted, the run ends, or what is said of a record was put.
-- Assumes nothing.
use mathlib.Core.Path.{sym, ◌∙◌}
use native.Mathlib.Omega.{arith}
use Rattle.compared.proofs.SideTexts.{end_most}
use Rattle.compared.proofs.Stepping.{more_there, steps_first, steps_second}
use Rattle.compared.proofs.Settling.{turn_first, turn_second, steps_ends, steps_records, notes_as}
use Rattle.compared.proofs.steps.step_records.Goals as goal

pub put_end-requires : goal.put_end-requires
put_end-requires c = record { fits = omega (arith, c.requires.longest_event_in_bounds, end_most c.in-Ends.a c.in-Ends.b c.args.named) }

pub returns-in-First : goal.returns-in-First
returns-in-First c = steps_first c.requires.within (more_there c.stands-one.ensures (turn_first c.stands-one.result c.stands-other.result (sym c.settle.ensures ∙ c.in-First.is)))

pub returns-in-Second : goal.returns-in-Second
returns-in-Second c = steps_second c.requires.within (more_there c.stands-other.ensures (turn_second c.stands-one.result c.stands-other.result (sym c.settle.ensures ∙ c.in-Second.is)))

pub returns-in-Ends : goal.returns-in-Ends
returns-in-Ends c = steps_ends c.args.asked c.args.first_version c.args.second_version c.requires.within c.stands-one.ensures c.stands-other.ensures (sym c.settle.ensures ∙ c.in-Ends.is) c.put_end.ensures c.not_same.ensures

pub returns-in-Records : goal.returns-in-Records
returns-in-Records c = steps_records c.requires.within c.stands-one.ensures c.stands-other.ensures (sym c.settle.ensures ∙ c.in-Records.is) c.place_after.ensures c.place_after-in-Records.ensures c.saturating_add.ensures c.in_versions-sides.ensures (notes_as c.body-a.ensures c.body-b.ensures c.note-noted.ensures)
