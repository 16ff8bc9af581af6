-- No promise names this: a sum as the code hands it on, by its sign and its size.
-- Assumes nothing.
use Rattle.std.specs.Prelude.{ℕ, Bool, ℤ, unsigned_abs}
use Rattle.branches.specs.Sums.{below0}
use Rattle.branches.specs.declared.Sum.{Sum}

abbrev pub parts : Bool → ℕ → Sum
parts minus size = record { minus = minus; size = size }

abbrev pub parted : ℤ → Sum
parted sum = parts (below0 sum) (unsigned_abs sum)
