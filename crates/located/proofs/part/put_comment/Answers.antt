-- `located::part::put_comment` meets its contract: three puts, one after the other.
-- Assumes nothing.
use Rattle.std.proofs.Common.{◌++◌}
use Rattle.text.proofs.Putting.{first, rest, and_then}
use Rattle.answers.specs.Lines.{newline}
use Rattle.located.specs.Parts.{body_text, comment_text}
use Rattle.located.proofs.part.put_comment.Goals as goal

pub put_bytes-next-requires : goal.put_bytes-next-requires
unfolding comment_text
put_bytes-next-requires c = first (body_text c.args.body.now ++ newline) c.requires

pub put_body-next-requires : goal.put_body-next-requires
unfolding comment_text
put_body-next-requires c = first newline (rest c.requires c.put_bytes-next.ensures)

pub put_byte-requires : goal.put_byte-requires
unfolding comment_text
put_byte-requires c = rest (rest c.requires c.put_bytes-next.ensures) c.put_body-next.ensures

pub returns : goal.returns
unfolding comment_text
returns c = and_then c.requires c.put_bytes-next.ensures (and_then (rest c.requires c.put_bytes-next.ensures) c.put_body-next.ensures c.put_byte.ensures)
