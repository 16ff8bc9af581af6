-- `compared::events::put_differing` meets its contract: both lines aside, and then two puts.
-- Assumes nothing.
use mathlib.Core.Path.{sym}
use lib.Seq.{length-take-le}
use Rattle.text.proofs.Putting.{first, rest, and_then, room_as, put_as}
use Rattle.records.specs.Lines.{record_line}
use Rattle.compared.specs.Events.{kind_of}
use Rattle.compared.specs.Text.{kind_text}
use Rattle.compared.specs.Code.{differing_text}
use Rattle.compared.proofs.EventTexts.{kind_aside, differing-room}
use Rattle.compared.proofs.events.put_differing.Goals as goal

pub put_number-next-requires : goal.put_number-next-requires
unfolding differing_text
put_number-next-requires c = first (kind_text (kind_of (record_line c.args.sides.first c.args.first.now) (record_line c.args.sides.second c.args.second.now))) (differing-room c.args.sides c.args.number c.ranges.number.fits c.args.first.now c.args.second.now c.requires.longest_event_in_bounds)

pub slice_bounds-put_lines-end : goal.slice_bounds-put_lines-end
slice_bounds-put_lines-end c = sym (length-take-le _ _ c.line_of-first_length.ensures.within)

pub slice_bounds-put_lines-end-2 : goal.slice_bounds-put_lines-end-2
slice_bounds-put_lines-end-2 c = sym (length-take-le _ _ c.line_of-second_length.ensures.within)

pub put_lines-requires : goal.put_lines-requires
unfolding differing_text
put_lines-requires c = room_as (sym (kind_aside c.line_of-first_length.ensures c.line_of-second_length.ensures)) (rest (differing-room c.args.sides c.args.number c.ranges.number.fits c.args.first.now c.args.second.now c.requires.longest_event_in_bounds) c.put_number-next.ensures)

pub returns : goal.returns
unfolding differing_text
returns c = and_then (differing-room c.args.sides c.args.number c.ranges.number.fits c.args.first.now c.args.second.now c.requires.longest_event_in_bounds) c.put_number-next.ensures (put_as (kind_aside c.line_of-first_length.ensures c.line_of-second_length.ensures) c.put_lines.ensures)
