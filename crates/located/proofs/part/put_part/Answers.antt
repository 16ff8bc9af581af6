-- `located::part::put_part` meets its contract: three puts, one after the other.
-- Assumes nothing.
use Rattle.std.proofs.Common.{◌++◌}
use Rattle.text.proofs.Putting.{first, rest, and_then}
use Rattle.located.specs.Parts.{shown_text, comment_text, record_part}
use Rattle.located.proofs.part.put_part.Goals as goal

pub put_head-next-requires : goal.put_head-next-requires
unfolding record_part
put_head-next-requires c = first (shown_text c.args.asked c.args.body.now ++ comment_text c.args.body.now) c.requires

pub put_shown-placed-requires : goal.put_shown-placed-requires
unfolding record_part
put_shown-placed-requires c = first (comment_text c.args.body.now) (rest c.requires c.put_head-next.ensures)

pub put_comment-out-requires : goal.put_comment-out-requires
unfolding record_part
put_comment-out-requires c = rest (rest c.requires c.put_head-next.ensures) c.put_shown-placed.ensures.put

pub returns : goal.returns
unfolding record_part
returns c = record { answer = c.put_shown-placed.ensures.answer; put = and_then c.requires c.put_head-next.ensures (and_then (rest c.requires c.put_head-next.ensures) c.put_shown-placed.ensures.put c.put_comment-out.ensures) }
