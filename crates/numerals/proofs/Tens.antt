-- Laws of decimals: one digit, or those of the tenth part and the last; and how many there are.
-- Assumes nothing.
use mathlib.Core.Path.{◌≡◌, refl, ap}
use mathlib.Core.Bool.{Bool, true, false}
use mathlib.Core.List.{List, [], ◌∷◌, ◌++◌}
use Prim.Native.Nat.{ℕ, zero, suc, ◌+◌, ◌/◌, ◌%◌, ◌^◌, ◌≤◌, ◌<◌}
use native.Mathlib.Nat.{not-suc-le-zero}
use native.Mathlib.Omega.{arith}
use lib.Dec.{ltb, lit≤}
use lib.ListN.{length, length-append}
use borrow.Author.Tests.{lt-ltb, le-ltb, ltb-true, ltb-false}
use Rattle.text.specs.Words.{bytes}
use Rattle.text.proofs.Choosing.{cond_by}
use Rattle.numerals.specs.Decimals.{decimal_within, decimal}

-- it does not matter how many digits are allowed for, if there are enough
within_any : (k j n : ℕ) → n < k → n < j → decimal_within k n ≡ decimal_within j n
unfolding decimal_within
within_any zero j n h l = absurd (not-suc-le-zero h)
within_any (suc k) zero n h l = absurd (not-suc-le-zero l)
within_any (suc k) (suc j) n h l =
    cond_by (λ (t : List ℕ). t ≡ decimal_within (suc j) n) (ltb n 10) (λ e. rw e)
    (λ e.
    let many : 10 ≤ n = ltb-false n 10 e in
    rw e (ap (λ (t : List ℕ). t ++ ((48 + n % 10) ∷ [])) (within_any k j (n / 10) (omega (arith, many, h)) (omega (arith, many, l)))))

pub decimal_one : (n : ℕ) → n < 10 → decimal n ≡ (48 + n) ∷ []
unfolding decimal decimal_within
decimal_one n h = rw (lt-ltb n 10 h)

pub decimal_more : (n : ℕ) → 10 ≤ n → decimal n ≡ decimal (n / 10) ++ ((48 + n % 10) ∷ [])
unfolding decimal decimal_within
decimal_more n h =
    rw (le-ltb n 10 h) (ap (λ (t : List ℕ). t ++ ((48 + n % 10) ∷ [])) (within_any n (suc (n / 10)) (n / 10) (omega (arith, h)) (omega arith)))

-- a number below the k-th power of ten has k digits at most
pub decimal_most : (k n : ℕ) → n < 10 ^ suc k → length (decimal n) ≤ suc k
decimal_most zero n h = rw (decimal_one n (omega (arith, h))) (lit≤ tt)
decimal_most (suc k) n h =
    cond_by (λ (t : Bool). length (decimal n) ≤ suc (suc k)) (ltb n 10) {x = true} {y = false}
    (λ e. rw (decimal_one n (ltb-true n 10 e)) (omega arith))
    (λ e.
    let few = decimal_most k (n / 10) (omega (arith, h)) in
    rw (decimal_more n (ltb-false n 10 e)) (omega (arith, length-append (decimal (n / 10)) ((48 + n % 10) ∷ []), few)))

-- 0, 9, 10, 99 and 100
decimals : decimal 0 ∷ decimal 9 ∷ decimal 10 ∷ decimal 99 ∷ decimal 100 ∷ []
    ≡ bytes "0" ∷ bytes "9" ∷ bytes "10" ∷ bytes "99" ∷ bytes "100" ∷ []
unfolding decimal decimal_within
decimals = refl
