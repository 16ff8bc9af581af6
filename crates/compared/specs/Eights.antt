-- What contracts inside the compare tool speak of, and no promise: eight bytes as one number.
-- Assumes nothing.
use Rattle.std.specs.Prelude.{◌≡◌, List, [], ◌∷◌, ℕ, ◌+◌, ◌*◌, ◌<◌, get_or}

-- a digit is a byte
abbrev pub base : ℕ
base = 256

-- the number whose digits these are, the lowest first
abbrev pub number : List ℕ → ℕ
number [] = 0
number (x ∷ xs) = number xs * base + x

-- each is a digit
abbrev pub Digits : List ℕ → Type 0
Digits [] = Unit {0}
Digits (x ∷ xs) = (x < base) × Digits xs

-- what stands at a place and at the seven after it
abbrev pub eight : List ℕ → ℕ → List ℕ
eight xs at =
    get_or xs at 0 ∷ get_or xs (at + 1) 0 ∷ get_or xs (at + 2) 0 ∷ get_or xs (at + 3) 0 ∷ get_or xs (at + 4) 0 ∷ get_or xs (at + 5) 0 ∷ get_or xs (at + 6) 0 ∷ get_or xs (at + 7) 0 ∷ []

-- a number is this digit
pub record Digit (x r : ℕ) : Type 0 where
  pub value : r ≡ x
  pub below : r < base

-- a number has these eight digits
pub record Eight (xs : List ℕ) (at r : ℕ) : Type 0 where
  pub value : r ≡ number (eight xs at)
  pub digits : Digits (eight xs at)
