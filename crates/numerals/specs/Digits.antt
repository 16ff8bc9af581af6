-- Hexadecimal digits by place value.
-- Assumes nothing.
use Rattle.std.specs.Prelude.{cond, List, [], ◌∷◌, ◌++◌, ℕ, zero, suc, ◌+◌, ◌-◌, ◌/◌, ◌%◌, ◌^◌, ltb}

-- "upper-case hex": the digit of a number below 16, 0 to 9 and then A to F
unfoldable pub digit : ℕ → ℕ
digit d = cond (ltb d 10) (48 + d) (55 + d)

-- the last k digits of v, the top one first
unfoldable pub digits : ℕ → ℕ → List ℕ
digits zero v = []
digits (suc k) v = digits k (v / 16) ++ (digit (v % 16) ∷ [])

-- the first of n, n + 1, .., n + k places in which v can be written; n + k where it is none of those before
unfoldable pub places_from : ℕ → ℕ → ℕ → ℕ
places_from n zero v = n
places_from n (suc k) v = cond (ltb v (16 ^ n)) n (places_from (suc n) k v)

-- "without needless zeros": the fewest places for a number of 32 bits, at least one and at most eight
unfoldable pub places : ℕ → ℕ
places v = places_from 1 7 v

-- the top one of k digits
abbrev pub top : ℕ → ℕ → ℕ
top k v = v / 16 ^ (k - 1)
