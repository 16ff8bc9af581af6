-- `located::steps::step_frame` meets its contract: too few bytes for a length, too few for the frame, or a whole one.
-- Assumes nothing.
use Rattle.std.proofs.Common.{refl, ◌+◌, ◌-◌, ◌^◌, ◌<◌, take, drop, arith, length-drop, length-take-le}
use Rattle.streams.proofs.Streaming.{part_cut}
use Rattle.located.proofs.RecordParts.{part_short}
use Rattle.located.proofs.Going.{steps_none, steps_whole}
use Rattle.located.proofs.steps.step_frame.Goals as goal

pub returns-then-input-lt2 : goal.returns-then-input-lt2
returns-then-input-lt2 c = steps_none (part_cut c.args.input.now (omega (arith, c.if-input-lt2.true)), omega (arith, c.if-input-lt2.true))

pub returns-then-input-end : goal.returns-then-input-end
returns-then-input-end c = let few : c.word_at.result < 2 ^ 16 = c.word_at.type_inv in
    steps_none (part_cut c.args.input.now (omega (arith, c.if-input-end.true, c.word_at.ensures)), omega (arith, c.if-input-end.true, few))

pub put_part-placed-requires : goal.put_part-placed-requires
put_part-placed-requires c = let n = c.word_at.result in let few : n < 2 ^ 16 = c.word_at.type_inv in let xs = c.args.input.now in let sized = length-take-le (2 + n - 2) (drop 2 xs) (omega (arith, length-drop 2 xs, c.if-input-end.false)) in let short = part_short c.in_version.result c.args.number c.args.offset (take (2 + n - 2) (drop 2 xs)) c.ranges.number.fits c.ranges.offset.fits (omega (arith, sized, few)) in record { fits = omega (arith, c.requires.longest_part_in_bounds, short) }

pub returns : goal.returns
returns c = let n = c.word_at.result in
    let few : n < 2 ^ 16 = c.word_at.type_inv in
    let xs = c.args.input.now in
    let sized = length-take-le (2 + n - 2) (drop 2 xs) (omega (arith, length-drop 2 xs, c.if-input-end.false)) in
    let short = part_short c.in_version.result c.args.number c.args.offset (take (2 + n - 2) (drop 2 xs)) c.ranges.number.fits c.ranges.offset.fits (omega (arith, sized, few)) in
    steps_whole c.args.asked c.args.number c.args.offset c.args.version xs (2 + n - 2) c.in_version.ensures c.word_at.ensures c.if-input-end.false (omega arith) refl refl short c.put_part-placed.ensures c.refused_for.ensures
