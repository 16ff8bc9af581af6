-- `answers::put_refused` meets its contract: what is said, and the newline.
-- Assumes nothing.
use Rattle.text.proofs.Putting.{first, rest, and_then}
use Rattle.answers.specs.Lines.{newline, refused_line}
use Rattle.answers.proofs.put_refused.Goals as goal

pub put_refusal-next-requires : goal.put_refusal-next-requires
unfolding refused_line
put_refusal-next-requires c = record { n_bound = c.requires.n_bound; room = first newline c.requires.room }

pub put_byte-requires : goal.put_byte-requires
unfolding refused_line
put_byte-requires c = rest c.requires.room c.put_refusal-next.ensures

pub returns : goal.returns
unfolding refused_line
returns c = and_then c.requires.room c.put_refusal-next.ensures c.put_byte.ensures
