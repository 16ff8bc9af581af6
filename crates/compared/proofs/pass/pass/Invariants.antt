-- `compared::pass::pass` meets its contract. The loop's invariant is `Going`, with no wish for bytes yet; its measure is what is left of
-- both listings.
-- Assumes nothing.
use Prim.Native.Nat.{◌+◌, ◌-◌}
use mathlib.Core.Path.{◌≡◌}
use lib.ListN.{length}
use Rattle.compared.specs.declared.Next.TheVariants.{On}
use Rattle.compared.proofs.Passing.{Going}
use Rattle.compared.proofs.pass.pass.Given as goal

abbrev pub invariant-loop-text : goal.invariant-loop-text
invariant-loop-text l =
    Going l.asked l.initial.passed.stage l.first l.second l.first_ended l.second_ended l.initial.text l.passed.stage l.passed.first l.passed.second l.passed.out l.text × (l.passed.next ≡ On)

abbrev pub decreases-loop-text : goal.decreases-loop-text
decreases-loop-text l =
    (length l.first - l.passed.first) + (length l.second - l.passed.second)
