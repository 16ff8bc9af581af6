-- `branches::short_sum` meets its contract: the cast reads the lowest 8 bits as signed.
-- Assumes nothing.
use Rattle.std.proofs.Common.{◌+◌, ◌∙◌, arith, w8}
use Rattle.std.proofs.lemmas.Int.{to_z-of_z}
use Rattle.branches.proofs.Sums.{signed_8, parted_by}
use Rattle.branches.proofs.short_sum.Goals as goal

pub returns : goal.returns
returns c = let a = c.args in
    let read = c.cast_signed-sum.ensures ∙ signed_8 (a.value + a.length) _ (omega arith) in
    parted_by _ _ _ c.unsigned_abs.ensures.value (to_z-of_z w8 _ (record { sfits = c.cast_signed-sum.type_inv }) ∙ read)
