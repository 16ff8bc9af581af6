-- `branches::whole_sum` meets its contract: the sum fits 64 bits.
-- Assumes nothing.
use Rattle.std.proofs.Common.{ℤ, pos, ◌+ℤ◌, ap, ◌∙◌, arith}
use Rattle.branches.proofs.Sums.{signed_32, summed_wide, parted_by}
use Rattle.branches.proofs.whole_sum.Goals as goal

pub returns : goal.returns
returns c = let a = c.args in
    let read = c.cast_signed.ensures ∙ signed_32 a.value a.value (omega arith) in
    let sum = summed_wide _ a.length (record { sfits = c.cast_signed.type_inv }) (omega arith) in
    parted_by _ _ _ c.unsigned_abs.ensures.value (sum ∙ ap (λ (z : ℤ). z +ℤ pos a.length) read)
