-- The branch sums modulo 2^32.
-- Assumes nothing.
use mathlib.Core.Path.{◌≡◌, refl, sym, ap, subst, ◌∙◌}
use mathlib.Core.Logic.{◌⊎◌, inl, inr}
use Prim.Native.Nat.{ℕ, suc, ◌+◌, ◌-◌, ◌%◌, ◌^◌, ◌<◌, ◌≤◌}
use native.Mathlib.Decide.{dec_lt}
use native.Mathlib.Nat.{mod-lt}
use native.Mathlib.Omega.{arith}
use lib.Dec.{lit<}
use lib.IntN.{ℤ, pos, negsuc, nat_abs, ◌+ℤ◌, +ℤ_comm}
use Rattle.branches.specs.Sums.{signed, below0, modulo}
use Rattle.branches.proofs.Modulo.{modulo-plus, modulo_wide}
use Rattle.branches.proofs.Sums.{signed_low, signed_high, whole_low, whole_back, whole_over}
use Rattle.readback.specs.Meaning.{by_sign}
use Rattle.readback.specs.Targets.{FitsByte}

-- an integer by its sign and size
pub by_sign_lem : (z : ℤ) → by_sign (below0 z) (nat_abs z) ≡ z
by_sign_lem (pos n) = refl
by_sign_lem (negsuc n) = refl

-- the lowest 8 bits, read as signed
modulo_low : (n : ℕ) → n % 2 ^ 8 < 2 ^ 7 → modulo (signed 8 n) ≡ n % 2 ^ 8
modulo_low n h = ap modulo (signed_low 8 n (n % 2 ^ 8) refl h) ∙ omega arith

modulo_high : (n : ℕ) → 2 ^ 7 ≤ n % 2 ^ 8 → modulo (signed 8 n) ≡ n % 2 ^ 8 + (2 ^ 32 - 2 ^ 8)
modulo_high n h =
    let bound = mod-lt n {m = 2 ^ 8} (lit< tt) in
    ap modulo (signed_high 8 n (n % 2 ^ 8) refl h bound) ∙ omega arith

-- ---- What 8 bits keep

-- of a number of 32 bits, 8 bits keep exactly what fits them
module _ (n : ℕ) where
  fits_low : n % 2 ^ 32 < 2 ^ 31 → FitsByte (signed 32 n) → FitsByte (pos (n % 2 ^ 32))
  fits_low h f = subst FitsByte (signed_low 32 n (n % 2 ^ 32) refl h) f

  fits_high : 2 ^ 31 ≤ n % 2 ^ 32 → FitsByte (signed 32 n) → FitsByte (negsuc (2 ^ 32 - suc (n % 2 ^ 32)))
  fits_high h f = subst FitsByte (signed_high 32 n (n % 2 ^ 32) refl h (mod-lt n {m = 2 ^ 32} (lit< tt))) f

  pub same_if_fits : FitsByte (signed 32 n) → modulo (signed 8 n) ≡ modulo (signed 32 n)
  same_if_fits f =
      let bound = mod-lt n {m = 2 ^ 32} (lit< tt) in
      elim (dec_lt (n % 2 ^ 32) (2 ^ 31)) [
        | yes h ↦ let small = fits_low h f in modulo_low n (omega arith) ∙ omega arith ∙ sym (modulo_wide n)
        | no h ↦ let near = fits_high (omega arith) f in modulo_high n (omega arith) ∙ omega arith ∙ sym (modulo_wide n)
      ]

  pub fits_if_same : modulo (signed 8 n) ≡ modulo (signed 32 n) → FitsByte (signed 32 n)
  fits_if_same e =
      let k = sym (modulo_wide n) ∙ sym e in
      let bound = mod-lt n {m = 2 ^ 32} (lit< tt) in
      elim (dec_lt (n % 2 ^ 8) (2 ^ 7)) [
        | yes g ↦ let m = k ∙ modulo_low n g in rw (signed_low 32 n (n % 2 ^ 32) refl (omega arith)) (omega arith)
        | no g ↦ let m = k ∙ modulo_high n (omega arith) in rw (signed_high 32 n (n % 2 ^ 32) refl (omega arith) bound) (omega arith)
      ]

-- ---- A short distance and a length

-- a distance of 8 bits, as 32 bits
abbrev pub Short : ℕ → Type 0
Short value = (value < 2 ^ 7) ⊎ (2 ^ 32 - 2 ^ 7 ≤ value)

-- its sum with a length needs no more than 32 bits
pub sum_within_lem : (value length : ℕ) → value < 2 ^ 32 → length ≤ 15 → Short value → signed 32 value +ℤ pos length ≡ signed 32 (value + length)
sum_within_lem value length v l (inl h) =
    whole_low value length (omega arith) ∙ sym (signed_low 32 (value + length) (value + length) (omega arith) (omega arith))
sum_within_lem value length v l (inr h) =
    elim (dec_lt length (2 ^ 32 - value)) [
      | yes k ↦
          whole_back value length (2 ^ 32 - value) refl (omega arith) v k
          ∙ ap negsuc (omega arith)
          ∙ sym (signed_high 32 (value + length) (value + length) (omega arith) (omega arith) (omega arith))
      | no k ↦
          whole_over value length (2 ^ 32 - value) refl (omega arith) v (omega arith)
          ∙ sym (signed_low 32 (value + length) (length - (2 ^ 32 - value)) (omega arith) (omega arith))
    ]

-- ---- From the start

pub modulo-below : (z : ℤ) → modulo z < 2 ^ 32
modulo-below (pos n) = mod-lt n {m = 2 ^ 32} (lit< tt)
modulo-below (negsuc n) = mod-lt (2 ^ 32 - suc n % 2 ^ 32) {m = 2 ^ 32} (lit< tt)

-- after one and the same start, sums agree modulo 2^32 exactly where they agree by themselves
module _ (start : ℕ) (y z : ℤ) where
  pub after_start : modulo y ≡ modulo z → modulo (pos start +ℤ y) ≡ modulo (pos start +ℤ z)
  after_start e = modulo-plus start y ∙ ap (λ m. (start + m) % 2 ^ 32) e ∙ sym (modulo-plus start z)

  pub without_start : modulo (pos start +ℤ y) ≡ modulo (pos start +ℤ z) → modulo y ≡ modulo z
  without_start e =
      let k = sym (modulo-plus start y) ∙ e ∙ modulo-plus start z in
      let a = modulo-below y in
      let b = modulo-below z in
      omega arith

-- a sum that wraps in 32 bits is the whole sum modulo 2^32
pub wide_sum : (value length : ℕ) → modulo (signed 32 (value + length)) ≡ modulo (signed 32 value +ℤ pos length)
wide_sum value length =
    let e = modulo_wide value in
    modulo_wide (value + length)
    ∙ omega arith
    ∙ sym (modulo-plus length (signed 32 value))
    ∙ ap modulo (+ℤ_comm (pos length) (signed 32 value))
