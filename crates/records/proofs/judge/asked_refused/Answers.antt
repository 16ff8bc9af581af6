-- `records::judge::asked_refused` meets its contract.
-- Assumes nothing.
use Rattle.records.specs.Records.{asked_refused}
use Rattle.records.proofs.judge.asked_refused.Goals as goal

pub returns : goal.returns
unfolding asked_refused
returns c = rw c.known_version.ensures
