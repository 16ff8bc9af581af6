-- The line of a refused record: its parts, and how long it is.
-- Assumes nothing.
use mathlib.Core.Path.{◌≡◌}
use mathlib.Core.Bool.{Bool, true, false, cond}
use mathlib.Core.List.{[], ◌∷◌}
use Prim.Native.Nat.{ℕ, ◌+◌, ◌/◌, ◌%◌, ◌≤◌, ◌<◌}
use native.Mathlib.Omega.{arith}
use lib.Dec.{ltb}
use lib.ListN.{length, length-append}
use borrow.Author.Tests.{lt-ltb, le-ltb}
use Rattle.text.specs.Words.{bytes}
use Rattle.answers.specs.Lines.{newline, decimal, refused_text, refused_line}

pub decimal_one : (n : ℕ) → n < 10 → decimal n ≡ (48 + n) ∷ []
decimal_one n h = rw (lt-ltb n 10 h)

pub decimal-two : (n : ℕ) → 10 ≤ n → decimal n ≡ (48 + n / 10) ∷ (48 + n % 10) ∷ []
decimal-two n h = rw (le-ltb n 10 h)

decimal_most : (n : ℕ) → length (decimal n) ≤ 2
decimal_most n = go (ltb n 10)
  where
    go : (b : Bool) → length (cond b ((48 + n) ∷ []) ((48 + n / 10) ∷ (48 + n % 10) ∷ [])) ≤ 2
    go true = omega arith
    go false = omega arith

-- it has 12 bytes at the most: 10 letters, two digits; and the newline
pub refused_text_most : (n : ℕ) → length (refused_text n) ≤ 12
unfolding refused_text
refused_text_most n = omega (arith, decimal_most n, length-append (bytes "; refused ") (decimal n))

pub refused_most : (n : ℕ) → length (refused_line n) ≤ 13
unfolding refused_line
refused_most n = omega (arith, refused_text_most n, length-append (refused_text n) newline)
