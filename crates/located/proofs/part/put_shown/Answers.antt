-- `located::part::put_shown` meets its contract: the record alone, and what is said of a refusal.
-- Assumes nothing.
use Rattle.std.proofs.Common.{sym, ap}
use Rattle.text.proofs.Putting.{first, rest, and_then, room_as, put_as}
use Rattle.answers.specs.Refusals.{answer_of}
use Rattle.records.specs.Records.{refusals}
use Rattle.located.specs.Code.{refusal_text}
use Rattle.located.proofs.RecordParts.{shown_parts}
use Rattle.located.proofs.part.put_shown.Goals as goal

pub put_record-placed-requires : goal.put_record-placed-requires
put_record-placed-requires c = first (refusal_text (answer_of (refusals c.args.asked c.args.body.now))) (room_as (shown_parts c.args.asked c.args.body.now) c.requires)

pub put_refusal-out-requires : goal.put_refusal-out-requires
put_refusal-out-requires c = let p = c.put_record-placed.ensures in rw p.answer (rest (room_as (shown_parts c.args.asked c.args.body.now) c.requires) p.put)

pub returns : goal.returns
returns c = let p = c.put_record-placed.ensures in
    let e = shown_parts c.args.asked c.args.body.now in
    record { answer = p.answer; put = put_as (sym e) (and_then (room_as e c.requires) p.put (put_as (ap refusal_text p.answer) c.put_refusal-out.ensures)) }
