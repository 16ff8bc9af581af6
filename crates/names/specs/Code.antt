-- What contracts of the registers' code speak of, and no promise: how the names of the banks from 4 up are built.
-- Assumes nothing.
use Rattle.std.specs.Prelude.{List, [], ◌∷◌, ◌++◌, ℕ, ◌+◌, eqb, get_or}
use Rattle.text.specs.Choice.{when}
use Rattle.text.specs.Words.{bytes}

-- the stems, by bank; the names of the banks 0 to 3 have none
abbrev pub stems : List (List ℕ)
stems = [] ∷ [] ∷ [] ∷ [] ∷ bytes "st(" ∷ bytes "mm" ∷ bytes "xmm" ∷ bytes "ymm" ∷ bytes "zmm" ∷ bytes "k" ∷ []

abbrev pub stem : ℕ → List ℕ
stem bank = get_or stems bank []

-- what closes a name: the parenthesis of st(0)
abbrev pub closing : ℕ → List ℕ
closing bank = when (eqb bank 4) (bytes ")")

-- a register's number, as a letter
abbrev pub digit : ℕ → ℕ
digit number = 48 + number

-- stem, number and what closes
unfoldable pub built : (bank number : ℕ) → List ℕ
built bank number = stem bank ++ (digit number ∷ closing bank)
