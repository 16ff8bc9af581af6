-- `two_files::compare` is safe and ends. The loop's invariant: what is held of each file lies within its buffer.
-- Assumes nothing.
use Prim.Native.Nat.{◌≤◌}
use lib.ListN.{length}
use Rattle.two_files.proofs.compare.Given as goal

abbrev pub invariant-loop : goal.invariant-loop
invariant-loop g l =
    (l.state.first.have ≤ length l.first) × (l.state.second.have ≤ length l.second)
