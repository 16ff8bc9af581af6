-- No text of a number is longer than so.
-- Assumes nothing.
use Prim.Native.Nat.{ℕ, zero, suc, ◌+◌, ◌≤◌, ◌^◌}
use native.Mathlib.Omega.{arith}
use lib.Dec.{ltb}
use lib.IntN.{ℤ, nat_abs}
use lib.ListN.{length}
use Rattle.text.proofs.Choosing.{cond_by, cond_most}
use Rattle.numerals.specs.Digits.{places_from, places}
use Rattle.numerals.specs.Numerals.{needs_leading0, hex_ambiguous, numeral, displacement, absolute}
use Rattle.numerals.proofs.Texts.{length-numeral, length-displacement, length-absolute}

places_from_most : (n k v : ℕ) → places_from n k v ≤ n + k
unfolding places_from
places_from_most n zero v = omega arith
places_from_most n (suc k) v =
    cond_by (λ (m : ℕ). m ≤ n + suc k) (ltb v (16 ^ n)) (λ e. omega arith) (λ e. omega (arith, places_from_most (suc n) k v))

pub places_most : (v : ℕ) → places v ≤ 8
unfolding places
places_most v = places_from_most 1 7 v

pub numeral_short : (v : ℕ) → length (numeral v) ≤ 10
numeral_short v =
    omega (arith, length-numeral v, places_most v, cond_most (needs_leading0 (places v) v) 1, cond_most (hex_ambiguous v) 1)

pub displacement_short : (d : ℤ) → length (displacement d) ≤ 12
displacement_short d = omega (arith, length-displacement d, numeral_short (nat_abs d))

pub absolute_short : (k v : ℕ) → length (absolute k v) ≤ k + 2
absolute_short k v = omega (arith, length-absolute k v, cond_most (needs_leading0 k v) 1)
