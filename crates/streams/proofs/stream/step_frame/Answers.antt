-- `streams::stream::step_frame` meets its contract, by its tests; there is room for any line.
-- Assumes nothing.
use Prim.Native.Nat.{◌+◌, ◌-◌}
use native.Mathlib.Omega.{arith}
use lib.ListN.{take, drop}
use Rattle.text.proofs.Putting.{put_none}
use Rattle.streams.proofs.Stepping.{took, frame_few, frame_long, frame_part, whole_took, listed_short}
use Rattle.streams.proofs.stream.step_frame.Goals as goal

pub returns-then-input-lt2 : goal.returns-then-input-lt2
returns-then-input-lt2 c = took (frame_few c.args.version c.args.asked c.args.input.now c.if-input-lt2.true) put_none

pub returns-then-size-gt-LONGEST_BODY : goal.returns-then-size-gt-LONGEST_BODY
returns-then-size-gt-LONGEST_BODY c = took (frame_long c.args.version c.args.asked c.args.input.now c.word_at-size.ensures c.if-input-lt2.false c.if-size-gt-LONGEST_BODY.true) put_none

pub returns-then-input-end : goal.returns-then-input-end
returns-then-input-end c = took (frame_part c.args.version c.args.asked c.args.input.now c.word_at-size.ensures c.if-input-lt2.false c.if-size-gt-LONGEST_BODY.false c.if-input-end.true) put_none

pub put_record-placed-requires : goal.put_record-placed-requires
put_record-placed-requires c = let n = c.word_at-size.result in record { fits = omega (arith, c.requires.longest_line_in_bounds, listed_short c.in_version.result (take (2 + n - 2) (drop 2 c.args.input.now))) }

pub returns : goal.returns
returns c = whole_took c.args.version c.args.asked c.args.input.now (2 + c.word_at-size.result - 2) c.in_version.ensures c.word_at-size.ensures c.if-input-lt2.false c.if-size-gt-LONGEST_BODY.false c.if-input-end.false (omega arith) c.put_record-placed.ensures c.refused_for.ensures
