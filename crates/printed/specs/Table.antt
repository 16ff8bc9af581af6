-- What the Rust printed, all of it. Made from rows.txt by compare/table; not to be edited by hand.
-- Assumes nothing.
use Rattle.std.specs.Prelude.{List, ◌++◌}
use Rattle.printed.specs.Rows.{Row}
use Rattle.printed.specs.TableBranch.{branch_rows}
use Rattle.printed.specs.TableGeneral.{general_rows}
use Rattle.printed.specs.TableName.{name_rows}
use Rattle.printed.specs.TableArm.{arm_rows}
use Rattle.printed.specs.TableRefusal.{refusal_rows}
use Rattle.printed.specs.TableListing.{listing_rows}
use Rattle.printed.specs.TableMask.{mask_rows}
use Rattle.printed.specs.TableVector.{vector_rows}
use Rattle.printed.specs.TableLimit.{limit_rows}

-- the rows that are computed, and then those at the limit of a listing
unfoldable pub computed : List Row
computed = branch_rows ++ (general_rows ++ (name_rows ++ (arm_rows ++ (refusal_rows ++ (listing_rows ++ (mask_rows ++ vector_rows))))))

unfoldable pub table : List Row
table = computed ++ limit_rows
