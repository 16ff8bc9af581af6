-- What the Rust printed: the limit rows. Made from rows.txt by compare/table; not to be edited by hand.
-- Assumes nothing.
use Rattle.std.specs.Prelude.{List, [], ◌∷◌}
use Rattle.printed.specs.Rows.{Row, prints, answers, both, crate, straight, unknown, body, listing, repeated}

unfoldable pub limit_rows : List Row
limit_rows =
    -- Listings at the limit, and a byte longer
    repeated both "03" 16777216 (prints "; version\n") ∷
    repeated both "03" 16777217 (answers 2) ∷
    []
