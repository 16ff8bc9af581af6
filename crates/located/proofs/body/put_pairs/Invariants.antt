-- `located::body::put_pairs` meets its contract. The loop's invariant is what is left to be put.
-- Assumes nothing.
use Rattle.std.proofs.Common.{drop}
use Rattle.text.proofs.Putting.{Left}
use Rattle.located.specs.Parts.{per_line, pairs}
use Rattle.located.proofs.body.put_pairs.Given as goal

abbrev pub invariant-loop-b : goal.invariant-loop-b
invariant-loop-b l = Left l.initial.text l.at (pairs per_line l.body) l.text l.out (pairs l.room (drop l.b-index l.body))
