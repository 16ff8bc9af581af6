-- `located::body::put_pair` meets its contract: a blank, and two digits.
-- Assumes nothing.
use Rattle.text.proofs.Putting.{and_then}
use Rattle.located.proofs.body.put_pair.Goals as goal

pub returns : goal.returns
returns c = and_then c.requires c.put_bytes-next.ensures c.put_digits.ensures
