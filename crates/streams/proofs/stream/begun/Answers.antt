-- `streams::stream::begun` meets its contract, by cases.
-- Assumes nothing.
use native.Mathlib.Omega.{arith}
use Rattle.streams.proofs.Stepping.{skip_within}
use Rattle.streams.proofs.stream.begun.Goals as goal

pub overflow_sub-result : goal.overflow_sub-result
overflow_sub-result c = omega (arith, skip_within c.in-Skip.is c.requires)

pub returns-in-Skip : goal.returns-in-Skip
returns-in-Skip c = rw c.in-Skip.is
