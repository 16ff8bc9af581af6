-- Decimal numbers of any size.
-- Assumes nothing.
use Rattle.std.specs.Prelude.{cond, List, [], ◌∷◌, ◌++◌, ℕ, zero, suc, ◌+◌, ◌/◌, ◌%◌, ltb}

-- the last digits of a number, at most k, the top one first and without needless zeros
unfoldable pub decimal_within : ℕ → ℕ → List ℕ
decimal_within zero n = []
decimal_within (suc k) n = cond (ltb n 10) ((48 + n) ∷ []) (decimal_within k (n / 10) ++ ((48 + n % 10) ∷ []))

-- a number in decimal: it has no more digits than one more than itself
unfoldable pub decimal : ℕ → List ℕ
decimal n = decimal_within (suc n) n
