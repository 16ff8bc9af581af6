-- `names::registers::put_numbered` meets its contract: a stem and a digit are put one after the other.
-- Assumes nothing.
use Rattle.text.proofs.Putting.{and_then}
use Rattle.names.proofs.registers.put_numbered.Goals as goal

pub returns : goal.returns
returns c = and_then c.requires.room c.put_bytes-next.ensures c.put_byte.ensures
