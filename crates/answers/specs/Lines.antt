-- "a refused one prints `; refused N`", and the lines of a listing that no record has.
-- Assumes nothing.
use Rattle.std.specs.Prelude.{cond, List, [], ◌∷◌, ◌++◌, ℕ, ◌+◌, ◌/◌, ◌%◌, ltb}
use Rattle.text.specs.Words.{bytes}

abbrev pub newline : List ℕ
newline = 10 ∷ []

-- a number below 100 in decimal
abbrev pub decimal : ℕ → List ℕ
decimal n = cond (ltb n 10) ((48 + n) ∷ []) ((48 + n / 10) ∷ (48 + n % 10) ∷ [])

-- what is said of a refused record, and its line
unfoldable pub refused_text : ℕ → List ℕ
refused_text n = bytes "; refused " ++ decimal n

unfoldable pub refused_line : ℕ → List ℕ
refused_line n = refused_text n ++ newline
