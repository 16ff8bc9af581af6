-- Integers modulo 2^32: sums can be taken before or after.
-- Assumes nothing.
use Rattle.std.proofs.Common.{◌≡◌, ℕ, suc, ◌+◌, ◌-◌, ◌%◌, ◌^◌, ℤ, pos, negsuc, ◌+ℤ◌, refl, ap, ◌∙◌, mod-lt, arith, lit<, le-ltb, lt-ltb}
use native.Mathlib.Decide.{dec_lt}
use lib.IntN.{sub_ℕ}
use Rattle.branches.specs.Sums.{signed, modulo, target_of}
use Rattle.branches.proofs.Sums.{signed_low, signed_high}

-- a difference of two numbers
pub modulo_difference : (a b : ℕ) → modulo (sub_ℕ a b) ≡ (a + (2 ^ 32 - b % 2 ^ 32)) % 2 ^ 32
modulo_difference a b =
    elim (dec_lt a b) [
      | yes h ↦ rw (lt-ltb a b h) (omega arith)
      | no h ↦ rw (le-ltb a b (omega arith)) (omega arith)
    ]

pub modulo-plus : (a : ℕ) (z : ℤ) → modulo (pos a +ℤ z) ≡ (a + modulo z) % 2 ^ 32
modulo-plus a (pos n) = omega arith
modulo-plus a (negsuc n) = modulo_difference a (suc n) ∙ omega arith

-- the lowest 32 bits, read as signed, are the number modulo 2^32
pub modulo_wide : (n : ℕ) → modulo (signed 32 n) ≡ n % 2 ^ 32
modulo_wide n =
    let bound = mod-lt n {m = 2 ^ 32} (lit< tt) in
    elim (dec_lt (n % 2 ^ 32) (2 ^ 31)) [
      | yes h ↦ ap modulo (signed_low 32 n (n % 2 ^ 32) refl h) ∙ omega arith
      | no h ↦ ap modulo (signed_high 32 n (n % 2 ^ 32) refl (omega arith) bound) ∙ omega arith
    ]

-- a target in the form that the code computes
pub target_wrapped : (start length value : ℕ) → target_of start length value ≡ ((start + length) % 2 ^ 32 + value) % 2 ^ 32
target_wrapped start length value = let e = modulo_wide value in modulo-plus (start + length) (signed 32 value) ∙ omega arith
