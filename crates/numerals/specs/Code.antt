-- What contracts inside the printer speak of, and no promise: the number of places and the top digit, as the code finds them.
-- Assumes nothing.
use Rattle.std.specs.Prelude.{◌≡◌, ℕ, ◌≤◌}
use Rattle.numerals.specs.Digits.{places, top}

-- `n` is the number of places of v, and `d` the top digit
pub record TopOf (v n d : ℕ) : Type 0 where
  pub count : n ≡ places v
  pub first : d ≡ top (places v) v
  pub few : n ≤ 8
