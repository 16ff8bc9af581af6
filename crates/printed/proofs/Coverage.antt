-- The table is whole: how many rows it has, and what they are of.
-- Assumes nothing.
use mathlib.Core.Path.{◌≡◌, refl}
use mathlib.Core.List.{[], ◌∷◌}
use lib.Dec.{T}
use lib.ListN.{length}
use Rattle.text.specs.Words.{every}
use Rattle.printed.specs.Coverage.{among, twice_below, opcodes_in, answers_in, pairs_in}
use Rattle.printed.specs.Table.{computed, table}
use Rattle.printed.specs.TableBranch.{branch_rows}
use Rattle.printed.specs.TableGeneral.{general_rows}
use Rattle.printed.specs.TableName.{name_rows}
use Rattle.printed.specs.TableArm.{arm_rows}
use Rattle.printed.specs.TableRefusal.{refusal_rows}
use Rattle.printed.specs.TableListing.{listing_rows}
use Rattle.printed.specs.TableMask.{mask_rows}
use Rattle.printed.specs.TableVector.{vector_rows}
use Rattle.printed.specs.TableLimit.{limit_rows}

-- the rows, and the pairs of bytes and mode
pub table_rows : length table ≡ 1569
unfolding table computed branch_rows general_rows name_rows arm_rows refusal_rows listing_rows mask_rows vector_rows limit_rows
table_rows = refl

pub table-pairs : pairs_in table ≡ 2950
unfolding table computed branch_rows general_rows name_rows arm_rows refusal_rows listing_rows mask_rows vector_rows limit_rows
table-pairs = refl

-- of each of the 176 opcodes two records at least are printed, in either mode
pub crate_twice : T (twice_below 176 (opcodes_in 0 table))
unfolding table computed branch_rows general_rows name_rows arm_rows refusal_rows listing_rows mask_rows vector_rows limit_rows
crate_twice = tt

pub straight_twice : T (twice_below 176 (opcodes_in 1 table))
unfolding table computed branch_rows general_rows name_rows arm_rows refusal_rows listing_rows mask_rows vector_rows limit_rows
straight_twice = tt

-- each answer that refuses a record before there is a buffer is given to one
pub answers-there : T (every (λ n. among n (answers_in table)) (1 ∷ 2 ∷ 3 ∷ 4 ∷ 5 ∷ 7 ∷ []))
unfolding table computed branch_rows general_rows name_rows arm_rows refusal_rows listing_rows mask_rows vector_rows limit_rows
answers-there = tt
