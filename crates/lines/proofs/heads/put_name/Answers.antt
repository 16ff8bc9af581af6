-- `lines::heads::put_name` meets its contract: two arms print the name of another opcode.
-- Assumes nothing.
use mathlib.Core.Path.{sym}
use Rattle.text.proofs.Putting.{room_as, put_as}
use Rattle.lines.proofs.HeadTexts.{name_jmpf, name_callf}
use Rattle.lines.proofs.heads.put_name.Goals as goal

pub put_bytes-requires : goal.put_bytes-requires
put_bytes-requires c = room_as (name_jmpf c.args.opcode c.in-Jmpf.is) c.requires

pub put_bytes-requires-in-Callf : goal.put_bytes-requires-in-Callf
put_bytes-requires-in-Callf c = room_as (name_callf c.args.opcode c.in-Callf.is) c.requires

pub returns-in-Jmpf : goal.returns-in-Jmpf
returns-in-Jmpf c = put_as (sym (name_jmpf c.args.opcode c.in-Jmpf.is)) c.put_bytes.ensures

pub returns-in-Callf : goal.returns-in-Callf
returns-in-Callf c = put_as (sym (name_callf c.args.opcode c.in-Callf.is)) c.put_bytes-in-Callf.ensures
