-- A text that stands only where it is called for.
-- Assumes nothing.
use Rattle.std.specs.Prelude.{Bool, cond, List, [], ℕ}

abbrev pub when : Bool → List ℕ → List ℕ
when wanted t = cond wanted t []
