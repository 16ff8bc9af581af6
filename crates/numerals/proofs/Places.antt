-- Laws of digits: how many there are, how the loop from the last digit goes on, and what they are worth.
-- Assumes nothing.
use mathlib.Core.Path.{◌≡◌, refl, sym, ap, ◌∙◌}
use mathlib.Core.List.{List, [], ◌∷◌}
use Prim.Native.Nat.{ℕ, zero, suc, ◌+◌, ◌-◌, ◌/◌, ◌%◌, ◌≤◌, ◌<◌}
use native.Mathlib.Nat.{not-suc-le-zero}
use native.Mathlib.Numerals.{add-one}
use native.Mathlib.Omega.{arith}
use lib.ListN.{length, set, length-append}
use Rattle.text.specs.Write.{write}
use Rattle.text.specs.Code.{Put}
use Rattle.text.proofs.Writing.{write_none, write_last}
use Rattle.numerals.specs.Digits.{digit, digits}

pub length_digits : (k v : ℕ) → length (digits k v) ≡ k
unfolding digits
length_digits zero v = refl
length_digits (suc k) v = length-append (digits k (v / 16)) (digit (v % 16) ∷ []) ∙ rw (length_digits k (v / 16)) (add-one k)

-- the loop from the last digit: with the last of `left` digits stored, one digit less of the quotient is left
pub digits_last : (xs : List ℕ) (at left v : ℕ) → 0 < left → at + left ≤ length xs → write (set xs (at + (left - 1)) (digit (v % 16))) at (digits (left - 1) (v / 16)) ≡ write xs at (digits left v)
unfolding digits
digits_last xs at zero v some h = absurd (not-suc-le-zero some)
digits_last xs at (suc k) v some h =
    let placed : at + length (digits k (v / 16)) ≡ at + k = ap (λ (n : ℕ). at + n) (length_digits k (v / 16)) in
    let one_less : suc k - 1 ≡ k = omega arith in
    rw (one_less, ← placed) (write_last xs at (digits k (v / 16)) (digit (v % 16)) (rw placed (omega arith)))

-- all digits are written once none is left
pub put_digits_done : {xs : List ℕ} {at : ℕ} (k v : ℕ) {ys : List ℕ} (left w : ℕ) → left ≤ 0 → write ys at (digits left w) ≡ write xs at (digits k v) → Put xs at (digits k v) (at + k) ys
unfolding digits
put_digits_done {xs} {at} k v {ys} zero w none e =
    record { next = rw (length_digits k v); text = sym (write_none ys at) ∙ e }
put_digits_done k v (suc left) w none e = absurd (not-suc-le-zero none)
