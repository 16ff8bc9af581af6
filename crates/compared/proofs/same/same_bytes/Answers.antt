-- `compared::same::same_bytes` meets its contract: runs of unlike length are not the same.
-- Assumes nothing.
use mathlib.Core.Path.{sym, ap, ◌∙◌}
use native.Mathlib.Omega.{arith}
use lib.ListN.{length}
use Rattle.compared.proofs.SameBytes.{unequal_same, pointwise_same}
use Rattle.compared.proofs.same.same_bytes.Goals as goal

pub returns-then-a-b : goal.returns-then-a-b
returns-then-a-b c = sym (unequal_same c.args.a.now c.args.b.now (λ e. omega (arith, c.if-a-b.true, ap length e)))

pub returns-then-b-lt8 : goal.returns-then-b-lt8
returns-then-b-lt8 c = c.eq.ensures ∙ pointwise_same c.args.a.now c.args.b.now
