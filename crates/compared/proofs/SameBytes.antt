-- Laws of `same`: it holds exactly of equal runs of bytes. And of eight bytes as one number: equal numbers come of equal bytes.
-- Assumes nothing.
use Rattle.std.specs.Prelude.{nat_eq}
use Rattle.std.specs.Cmp.Lexicographic.{pointwise}
use mathlib.Core.Path.{◌≡◌, refl, sym, ap, ap₂}
use mathlib.Core.Bool.{Bool, true, false, ◌&&◌}
use mathlib.Core.List.{List, [], ◌∷◌}
use Prim.Native.Nat.{ℕ, ◌+◌, ◌*◌, ◌<◌, ◌≤◌}
use native.Mathlib.Omega.{arith}
use lib.Dec.{eqb}
use lib.ListN.{length, get_or}
use lib.Seq.{ext_get_or}
use borrow.Author.Count.{below_more}
use borrow.Author.Tests.{eq-eqb, eqb-true, eqb-false}
use Rattle.text.specs.Words.{same}
use Rattle.compared.specs.Eights.{number, Digits, eight, Eight}

both_true : (a b : Bool) → (a && b) ≡ true → (a ≡ true) × (b ≡ true)
both_true true b e = (refl, e)
both_true false b e = (cc, cc)

pub same_equal : (a b : List ℕ) → same a b ≡ true → a ≡ b
same_equal [] [] e = refl
same_equal [] (y ∷ b) e = cc
same_equal (x ∷ a) [] e = cc
same_equal (x ∷ a) (y ∷ b) e =
    let both = both_true (eqb x y) (same a b) e in
    ap₂ ◌∷◌ (eqb-true x y both.0) (same_equal a b both.1)

pub same_itself : (a : List ℕ) → same a a ≡ true
same_itself [] = refl
same_itself (x ∷ a) = rw (eq-eqb x x refl) (same_itself a)

pub equal_same : (a b : List ℕ) → a ≡ b → same a b ≡ true
equal_same a b e = rw e (same_itself b)

pub same_unequal : (a b : List ℕ) → same a b ≡ false → a ≡ b → ⊥
same_unequal a b e equal =
    let f = equal_same a b equal in
    let z : ◌≡◌ {A = ℕ} 0 1 = cc in
    omega (arith, z)

pub unequal_same : (a b : List ℕ) → (a ≡ b → ⊥) → same a b ≡ false
unequal_same a b other = go (same a b) refl
  where
    go : (t : Bool) → same a b ≡ t → same a b ≡ false
    go true e = absurd (other (same_equal a b e))
    go false e = e

-- equal numbers have equal lowest digits and equal rests
equal_digits : (m n x y : ℕ) → x < 256 → y < 256 → m * 256 + x ≡ n * 256 + y → (x ≡ y) × (m ≡ n)
equal_digits m n x y below below' e = (omega arith, omega arith)

equal_numbers : (xs ys : List ℕ) → length xs ≡ length ys → Digits xs → Digits ys → number xs ≡ number ys → xs ≡ ys
equal_numbers [] [] l d d' e = refl
equal_numbers [] (y ∷ ys) l d d' e = absurd (omega arith)
equal_numbers (x ∷ xs) [] l d d' e = absurd (omega arith)
equal_numbers (x ∷ xs) (y ∷ ys) l d d' e =
    let both = equal_digits (number xs) (number ys) x y d.0 d'.0 e in
    ap₂ ◌∷◌ both.0 (equal_numbers xs ys (omega arith) d.1 d'.1 both.1)

-- two lists are equal at each place below `i`
abbrev pub EqualBelow : (a b : List ℕ) → (i : ℕ) → Type 0
EqualBelow a b i = (k : ℕ) → k < i → get_or a k 0 ≡ get_or b k 0

module _ {a b : List ℕ} {at r s : ℕ} (first : Eight a at r) (second : Eight b at s) where
  pub eight_unequal : (r ≡ s → ⊥) → a ≡ b → ⊥
  eight_unequal other e = other (cc)

  pub eight_more : r ≡ s → EqualBelow a b at → EqualBelow a b (at + 8)
  eight_more e below =
      let equal : eight a at ≡ eight b at = equal_numbers (eight a at) (eight b at) refl first.digits second.digits (cc) in
      more 7 (more 6 (more 5 (more 4 (more 3 (more 2 (more 1 (below_more _ _ below (cc)) (cc)) (cc)) (cc)) (cc)) (cc)) (cc)) (cc)
    where
      more : (n : ℕ) → EqualBelow a b (at + n) → get_or a (at + n) 0 ≡ get_or b (at + n) 0 → EqualBelow a b (at + (n + 1))
      more n all here k l = below_more (λ k. get_or a k 0 ≡ get_or b k 0) (at + n) all here k (omega arith)

  -- where the eight end with both lists, they decide
  pub eights_same : length a ≡ length b → length a ≤ at + 8 → EqualBelow a b at → eqb r s ≡ same a b
  eights_same l ends below = go (eqb r s) refl
    where
      go : (t : Bool) → eqb r s ≡ t → t ≡ same a b
      go true e = sym (equal_same a b (ext_get_or 0 a b l (λ k m. eight_more (eqb-true r s e) below k (omega (arith, m, ends)))))
      go false e = sym (unequal_same a b (eight_unequal (eqb-false r s e)))

-- so does the library's comparison
pub pointwise_same : (a b : List ℕ) → pointwise nat_eq a b ≡ same a b
pointwise_same [] [] = refl
pointwise_same [] (y ∷ b) = refl
pointwise_same (x ∷ a) [] = refl
pointwise_same (x ∷ a) (y ∷ b) = ap (λ (t : Bool). eqb x y && t) (pointwise_same a b)
