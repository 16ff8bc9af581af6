-- `answers::put_refusal` meets its contract: two puts, one after the other.
-- Assumes nothing.
use Rattle.text.proofs.Putting.{first, rest, and_then}
use Rattle.answers.specs.Lines.{decimal, refused_text}
use Rattle.answers.proofs.put_refusal.Goals as goal

pub put_bytes-next-requires : goal.put_bytes-next-requires
unfolding refused_text
put_bytes-next-requires c = first (decimal c.args.n) c.requires.room

pub put_decimal-requires : goal.put_decimal-requires
unfolding refused_text
put_decimal-requires c = record { n_bound = c.requires.n_bound; room = rest c.requires.room c.put_bytes-next.ensures }

pub returns : goal.returns
unfolding refused_text
returns c = and_then c.requires.room c.put_bytes-next.ensures c.put_decimal.ensures
