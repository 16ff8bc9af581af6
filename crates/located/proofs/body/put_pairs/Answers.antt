use Rattle.std.proofs.Common.{◌+◌, drop}
use Rattle.text.proofs.Putting.{first, left_as, left_next, left_none}
use Rattle.located.specs.Parts.{room_after, pairs}
use Rattle.located.proofs.BodyTexts.{pairs_next, pairs_end}
use Rattle.located.proofs.body.put_pairs.Goals as goal

pub put_on_line-row-requires : goal.put_on_line-row-requires
put_on_line-row-requires c = let b = c.args.body.now in let l = c.loop-b in
    first (pairs (room_after l.room) (drop (l.b-index + 1) b)) (left_as (pairs_next l.room b l.b-index c.loop-b-test.true) l.invariant).room

pub loop-b-preserved : goal.loop-b-preserved
loop-b-preserved c = let b = c.args.body.now in let l = c.loop-b in let p = c.put_on_line-row.ensures in
    rw p.left_is (left_next (left_as (pairs_next l.room b l.b-index c.loop-b-test.true) l.invariant) p.put)

pub returns : goal.returns
returns c = left_none (left_as (pairs_end c.loop-b.room c.args.body.now c.loop-b.b-index c.loop-b-test.false) c.loop-b.invariant)
