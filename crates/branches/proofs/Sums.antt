-- The branch sums in the form that the code computes: casts of unsigned numbers, and a sign and a size.
-- Assumes nothing.
use Rattle.std.proofs.Common.{◌≡◌, ℕ, suc, ◌+◌, ◌-◌, ◌%◌, ◌^◌, ◌<◌, ◌≤◌, true, false, ℤ, pos, negsuc, ◌+ℤ◌, nat_abs, refl, sym, ap, ◌∙◌, arith, mod-lt, lit<, le-ltb, lt-ltb}
use native.Mathlib.Decide.{dec_lt}
use lib.Signed.{lt_z}
use mir.Syntax.{Width, w8, w32, w64}
use mir.Val.{SFits, to_z, of_z, bits, hbits}
use Rattle.std.proofs.lemmas.Int.{ints}
use Rattle.branches.specs.Sums.{signed}
use Rattle.branches.specs.Code.{parts, parted}

-- The lowest w bits of n are s.
module _ (w n s : ℕ) (is : s ≡ n % 2 ^ w) where
  -- below half of 2 ^ w they stand for themselves
  pub signed_low : s < 2 ^ (w - 1) → signed w n ≡ pos s
  unfolding signed
  signed_low low = rw (← is, lt-ltb _ _ low)

  -- from half on they stand for as much below 0 as is missing to 2 ^ w
  module _ (high : 2 ^ (w - 1) ≤ s) (below : s < 2 ^ w) where
    pub signed_high : signed w n ≡ negsuc (2 ^ w - suc s)
    unfolding signed
    signed_high = rw (← is, le-ltb _ _ high, lt-ltb _ _ below)

-- The whole sum of mode 1, which is stated in ℤ.
module _ (value length : ℕ) where
  pub whole_low : value < 2 ^ 31 → signed 32 value +ℤ pos length ≡ pos (value + length)
  whole_low low = rw (signed_low 32 value value (omega arith) low)

  -- a distance below 0 is `back` below it
  module _ (back : ℕ) (is : back ≡ 2 ^ 32 - value) (high : 2 ^ 31 ≤ value) (below : value < 2 ^ 32) where
    distance_back : signed 32 value ≡ negsuc (2 ^ 32 - suc value)
    distance_back = signed_high 32 value value (omega arith) high below

    pub whole_back : length < back → signed 32 value +ℤ pos length ≡ negsuc (back - suc length)
    whole_back less = rw (distance_back, lt-ltb length (suc (2 ^ 32 - suc value)) (omega arith)) (ap negsuc (omega arith))

    pub whole_over : back ≤ length → signed 32 value +ℤ pos length ≡ pos (length - back)
    whole_over more = rw (distance_back, le-ltb length (suc (2 ^ 32 - suc value)) (omega arith)) (ap pos (omega arith))

-- The lowest bits of n, at the width of a number, are s: cast to signed they are those bits read as signed.
module _ (n s : ℕ) where
  signed-by_width : (w : Width) → hbits w ≡ bits w - 1 → 0 < 2 ^ bits w → s ≡ n % 2 ^ bits w → to_z w s ≡ signed (bits w) n
  signed-by_width w half some is =
      let bound : s < 2 ^ bits w = rw is (mod-lt n some) in
      elim (dec_lt s (2 ^ (bits w - 1))) [
        | yes h ↦ rw (half, lt-ltb _ _ h) (sym (signed_low (bits w) n s is h))
        | no h ↦ rw (half, le-ltb s (2 ^ (bits w - 1)) (omega arith)) (sym (signed_high (bits w) n s is (omega arith) bound))
      ]

  pub signed_8 : s ≡ n % 2 ^ 8 → to_z w8 s ≡ signed 8 n
  signed_8 = signed-by_width w8 refl (lit< tt)

  pub signed_32 : s ≡ n % 2 ^ 32 → to_z w32 s ≡ signed 32 n
  signed_32 = signed-by_width w32 refl (lit< tt)

-- a distance plus a length, at 64 bits
pub summed_wide :
    (distance : ℤ) (length : ℕ) → SFits w32 distance → length < 2 ^ 8 →
    to_z w64 (of_z w64 (to_z w64 (of_z w64 (to_z w32 (of_z w32 distance))) +ℤ to_z w64 length)) ≡ distance +ℤ pos length
summed_wide distance length fits below = omega (arith, ints)

-- a sum by its sign and its size, of a number that is equal to it
pub parted_by : (z sum : ℤ) (size : ℕ) → size ≡ nat_abs z → z ≡ sum → parts (lt_z z (pos 0)) size ≡ parted sum
parted_by z sum size sized same = by z sized ∙ ap parted same
  where
    by : (z : ℤ) → size ≡ nat_abs z → parts (lt_z z (pos 0)) size ≡ parted z
    by (pos n) e = rw (le-ltb n 0 (omega arith)) (ap (parts false) e)
    by (negsuc n) e = ap (parts true) e
