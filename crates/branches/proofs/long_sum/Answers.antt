-- `branches::long_sum` meets its contract: the cast reads the lowest 32 bits as signed.
-- Assumes nothing.
use Rattle.std.proofs.Common.{◌+◌, ◌∙◌, refl, w32}
use Rattle.std.proofs.lemmas.Int.{to_z-of_z}
use Rattle.branches.proofs.Sums.{signed_32, parted_by}
use Rattle.branches.proofs.long_sum.Goals as goal

pub returns : goal.returns
returns c = let a = c.args in
    let read = c.cast_signed-sum.ensures ∙ signed_32 (a.value + a.length) _ refl in
    parted_by _ _ _ c.unsigned_abs.ensures.value (to_z-of_z w32 _ (record { sfits = c.cast_signed-sum.type_inv }) ∙ read)
