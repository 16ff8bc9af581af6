-- Texts of one line: no byte of them is a newline.
-- Assumes nothing.
use mathlib.Core.Path.{◌≡◌}
use mathlib.Core.Bool.{true, not}
use mathlib.Core.List.{List, [], ◌∷◌, ◌++◌}
use Prim.Native.Nat.{ℕ, zero, suc, ◌+◌, ◌/◌, ◌%◌}
use native.Mathlib.Omega.{arith}
use lib.Dec.{T, not_T, eqb, eqb→eq, ltb}
use Rattle.text.proofs.Choosing.{cond_by}
use Rattle.numerals.specs.Digits.{digit, digits}
use Rattle.numerals.specs.Decimals.{decimal_within, decimal}
use Rattle.masm.proofs.Tokens.{pair, all_append, unbroken}

abbrev Unbroken : List ℕ → Type 0
Unbroken t = T (unbroken t)

pub unbroken-append : (s t : List ℕ) → T (unbroken s) → T (unbroken t) → T (unbroken (s ++ t))
unbroken-append s t h k = all_append (λ d. not (eqb d 10)) s t h k

-- one byte above the newline
byte-unbroken : (c d : ℕ) → c ≡ 11 + d → T (unbroken (c ∷ []))
byte-unbroken c d h = pair (not (eqb c 10)) true (not_T (eqb c 10) (λ e. omega (arith, h, eqb→eq c 10 e))) tt

-- hex digits
digit-unbroken : (d : ℕ) → T (unbroken (digit d ∷ []))
unfolding digit
digit-unbroken d =
    cond_by (λ (c : ℕ). Unbroken (c ∷ [])) (ltb d 10) (λ e. byte-unbroken (48 + d) (37 + d) (omega arith)) (λ e. byte-unbroken (55 + d) (44 + d) (omega arith))

pub digits-unbroken : (k v : ℕ) → T (unbroken (digits k v))
unfolding digits
digits-unbroken zero v = tt
digits-unbroken (suc k) v = unbroken-append (digits k (v / 16)) (digit (v % 16) ∷ []) (digits-unbroken k (v / 16)) (digit-unbroken (v % 16))

-- decimals
within_unbroken : (k n : ℕ) → T (unbroken (decimal_within k n))
unfolding decimal_within
within_unbroken zero n = tt
within_unbroken (suc k) n =
    cond_by Unbroken (ltb n 10) (λ e. byte-unbroken (48 + n) (37 + n) (omega arith))
    (λ e. unbroken-append (decimal_within k (n / 10)) ((48 + n % 10) ∷ []) (within_unbroken k (n / 10)) (byte-unbroken (48 + n % 10) (37 + n % 10) (omega arith)))

pub decimal-unbroken : (n : ℕ) → T (unbroken (decimal n))
unfolding decimal
decimal-unbroken n = within_unbroken (suc n) n
