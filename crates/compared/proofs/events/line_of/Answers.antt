-- `compared::events::line_of` meets its contract: a put at the start of the array.
-- Assumes nothing.
use Rattle.compared.proofs.EventTexts.{line-room, line_aside}
use Rattle.compared.proofs.events.line_of.Goals as goal

pub put_record-placed-requires : goal.put_record-placed-requires
put_record-placed-requires c = line-room c.args.asked c.args.body.now c.requires.longest_line_in_bounds

pub returns : goal.returns
returns c = line_aside c.args.asked c.args.body.now c.requires.longest_line_in_bounds c.put_record-placed.ensures.put
