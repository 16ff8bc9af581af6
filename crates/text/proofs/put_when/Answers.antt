-- `text::put_when` meets its contract: where the text is not called for, nothing was put.
-- Assumes nothing.
use mathlib.Core.Path.{sym}
use Rattle.text.proofs.Putting.{put_as, put_none}
use Rattle.text.proofs.Choosing.{when-not}
use Rattle.text.proofs.put_when.Goals as goal

pub returns-else-wanted : goal.returns-else-wanted
returns-else-wanted c = put_as (sym (when-not c.args.t.now c.if-wanted.false)) put_none
