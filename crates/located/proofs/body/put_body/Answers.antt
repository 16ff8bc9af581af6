-- `located::body::put_body` meets its contract: a word, or the bytes.
-- Assumes nothing.
use Rattle.std.proofs.Common.{sym}
use Rattle.text.proofs.Putting.{room_as, put_as}
use Rattle.located.proofs.BodyTexts.{body_none, body_some}
use Rattle.located.proofs.body.put_body.Goals as goal

pub put_bytes-requires : goal.put_bytes-requires
put_bytes-requires c = room_as (body_none c.args.body.now c.if-body-eq0.true) c.requires

pub put_pairs-requires : goal.put_pairs-requires
put_pairs-requires c = room_as (body_some c.args.body.now c.if-body-eq0.false) c.requires

pub returns-then-body-eq0 : goal.returns-then-body-eq0
returns-then-body-eq0 c = put_as (sym (body_none c.args.body.now c.if-body-eq0.true)) c.put_bytes.ensures

pub returns-else-body-eq0 : goal.returns-else-body-eq0
returns-else-body-eq0 c = put_as (sym (body_some c.args.body.now c.if-body-eq0.false)) c.put_pairs.ensures
