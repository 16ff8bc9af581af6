-- `streams::stages::pass` meets its contract: the loop keeps the way so far, and ends where the text is full or no step uses any bytes.
-- Assumes nothing.
use Rattle.std.proofs.Common.{arith}
use Rattle.streams.proofs.Onward.{going_start, going_on, passes_full, passes_rest}
use Rattle.streams.proofs.stages.pass.Goals as goal

pub loop-text-init : goal.loop-text-init
loop-text-init g c = going_start g.met.S.Stages.none c.args.asked c.args.stage c.args.input.now c.args.text.now c.requires.alive

pub returns-then-taken-eq0 : goal.returns-then-taken-eq0
returns-then-taken-eq0 g c = passes_rest c.loop-text.invariant g.met.S.Stages.enough (omega (arith, c.loop-text-test.true)) c.step-taken.ensures c.if-taken-eq0.true c.next_at-next.ensures c.put_last-out.ensures

pub loop-text-preserved : goal.loop-text-preserved
loop-text-preserved g c = going_on c.loop-text.invariant c.step-taken.ensures (omega (arith, c.loop-text-test.true)) g.met.S.Stages.then c.if-taken-eq0.false

pub returns : goal.returns
returns g c = passes_full c.loop-text.invariant c.requires.room (omega (arith, g.met.S.Stages.enough)) (omega (arith, c.loop-text-test.false))
