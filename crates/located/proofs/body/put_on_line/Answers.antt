-- `located::body::put_on_line` meets its contract: by the room of the line.
-- Assumes nothing.
use Rattle.std.proofs.Common.{sym}
use Rattle.text.proofs.Putting.{first, rest, and_then, room_as, put_as}
use Rattle.located.specs.Parts.{pair}
use Rattle.located.proofs.BodyTexts.{on_next, room_next, on_same, room_same}
use Rattle.located.proofs.body.put_on_line.Goals as goal

pub put_bytes-next-requires : goal.put_bytes-next-requires
put_bytes-next-requires c = first (pair c.args.b) (room_as (on_next c.args.b c.if-room-eq0.true) c.requires)

pub put_pair-out-requires : goal.put_pair-out-requires
put_pair-out-requires c = rest (room_as (on_next c.args.b c.if-room-eq0.true) c.requires) c.put_bytes-next.ensures

pub returns-then-room-eq0 : goal.returns-then-room-eq0
returns-then-room-eq0 c = let e = on_next c.args.b c.if-room-eq0.true in
    record { left_is = room_next c.if-room-eq0.true; put = put_as (sym e) (and_then (room_as e c.requires) c.put_bytes-next.ensures c.put_pair-out.ensures) }

pub put_pair-out-requires-2 : goal.put_pair-out-requires-2
put_pair-out-requires-2 c = room_as (on_same c.args.room c.args.b c.if-room-eq0.false) c.requires

pub returns : goal.returns
returns c = record { left_is = room_same c.args.room c.if-room-eq0.false; put = put_as (sym (on_same c.args.room c.args.b c.if-room-eq0.false)) c.put_pair-out-2.ensures }
