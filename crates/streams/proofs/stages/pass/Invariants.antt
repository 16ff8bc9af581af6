-- `streams::stages::pass` meets its contract. The loop's invariant is `Going`; its measure is what is left of the input.
-- Assumes nothing.
use Rattle.std.proofs.Common.{◌-◌, length}
use Rattle.streams.proofs.Onward.{Going}
use Rattle.streams.proofs.stages.pass.Given as goal

abbrev pub invariant-loop-text : goal.invariant-loop-text
invariant-loop-text g l =
    Going g.S.Stages.way g.S.Stages.alive l.asked l.initial.stage l.input l.initial.text l.stage l.at l.out l.records l.refused l.text

abbrev pub decreases-loop-text : goal.decreases-loop-text
decreases-loop-text g l = length l.input - l.at
