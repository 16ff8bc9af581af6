-- `records::put::put_record` meets its contract: a record that is refused is put as that, and an accepted one has its line and what ends it.
-- Assumes nothing.
use mathlib.Core.Path.{sym}
use mathlib.Core.Bool.{not}
use Rattle.text.specs.Choice.{when}
use Rattle.text.proofs.Putting.{first, rest, and_then, room_as, put_as}
use Rattle.answers.specs.Lines.{newline}
use Rattle.records.proofs.Texts.{refused_room, refused_puts, accepted_shows}
use Rattle.records.proofs.put.put_record.Goals as goal

pub put_refused-requires : goal.put_refused-requires
put_refused-requires c = refused_room c.args.asked c.args.body.now c.in-Err.reason c.in-Err.ensures.err c.args.alone c.requires

pub put_line-next-requires : goal.put_line-next-requires
put_line-next-requires c =
    let s = accepted_shows c.in-Ok.ensures.ok c.mode_of.ensures in
    let ended = when (not c.args.alone) newline in
    record { rest_bound = s.few; plan_value = s.ordered; room = first ended (room_as (s.text c.args.alone) c.requires) }

pub put_when-out-requires : goal.put_when-out-requires
put_when-out-requires c =
    let s = accepted_shows c.in-Ok.ensures.ok c.mode_of.ensures in
    rest (room_as (s.text c.args.alone) c.requires) c.put_line-next.ensures

pub returns-in-Err : goal.returns-in-Err
returns-in-Err c =
    let e = c.put_refused.ensures in
    refused_puts c.args.asked c.args.body.now c.in-Err.reason c.in-Err.ensures.err c.args.alone e.refused_value e.put

pub returns-in-Ok : goal.returns-in-Ok
returns-in-Ok c =
    let k = c.in-Ok.ensures.ok in
    let s = accepted_shows k c.mode_of.ensures in
    record {
      answer = sym k.answer;
      put = put_as (sym (s.text c.args.alone)) (and_then (room_as (s.text c.args.alone) c.requires) c.put_line-next.ensures c.put_when-out.ensures);
    }
