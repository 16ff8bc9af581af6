-- `branches::target_of` meets its contract: sums can be wrapped one after the other.
-- Assumes nothing.
use Rattle.std.proofs.Common.{sym}
use Rattle.branches.proofs.Modulo.{target_wrapped}
use Rattle.branches.proofs.target_of.Goals as goal

pub returns : goal.returns
returns c = sym (target_wrapped c.args.start c.args.length c.args.value)
