-- `text::put_byte` meets its contract: one byte stored is one byte put.
-- Assumes nothing.
use Rattle.text.proofs.Putting.{put_stored}
use Rattle.text.proofs.put_byte.Goals as goal

pub returns : goal.returns
returns c = put_stored c.requires
