-- `stdio::lister::run_from` is safe and ends. The loop's invariant: the buffers keep their length, and what is held lies within one.
-- Assumes nothing.
use Rattle.std.proofs.Common.{◌≡◌, ◌≤◌, length}
use Rattle.stdio.proofs.lister.run_from.Given as goal

abbrev pub invariant-loop : goal.invariant-loop
invariant-loop g l =
    ((l.state.held.have ≤ length l.input) × g.S.Lister.alive l.state.stage) × ((length l.input ≡ length l.initial.input) × (length l.text ≡ length l.initial.text))
