-- `answers::put_decimal` meets its contract: where there are two digits, one was put behind the other.
-- Assumes nothing.
use mathlib.Core.Path.{sym}
use Rattle.text.proofs.Putting.{and_then, room_as, put_as}
use Rattle.answers.proofs.Lines.{decimal-two}
use Rattle.answers.proofs.put_decimal.Goals as goal

pub returns : goal.returns
returns c =
    let two = decimal-two c.args.n c.if-n-lt10.false in
    put_as (sym two) (and_then (room_as two c.requires.room) c.put_byte-next.ensures c.put_byte-2.ensures)
