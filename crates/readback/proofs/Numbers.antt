-- Numerals and absolutes are numbers to MASM's reader.
-- Assumes nothing.
use mathlib.Core.Path.{◌≡◌, refl}
use mathlib.Core.Bool.{Bool, true, false, cond}
use mathlib.Core.List.{[], ◌∷◌, ◌++◌, append_assoc}
use Prim.Native.Nat.{ℕ, zero, suc, ◌+◌, ◌-◌, ◌/◌, ◌%◌, ◌^◌, ◌≤◌, ◌<◌}
use native.Mathlib.Nat.{mod-eq_of_lt, div-lt_iff_lt-mul, one-le-pow, pow-succ', le_refl, add-zero, suc-add, add-suc}
use native.Mathlib.Decide.{dec_lt}
use native.Mathlib.Omega.{arith}
use borrow.Author.Tests.{ltb-true, leb-false, lt-ltb}
use lib.Dec.{T, ltb, leb, lit<}
use Rattle.text.specs.Choice.{when}
use Rattle.text.specs.Words.{bytes}
use Rattle.numerals.specs.Digits.{digit, digits, places_from, places}
use Rattle.numerals.specs.Numerals.{figure, numeral, absolute}
use Rattle.masm.specs.Tokens.{is_digit, tokens}
use Rattle.masm.specs.Expressions.{numeral as read_numeral}
use Rattle.masm.proofs.Numerals.{NumberText, below, below_at, spells, hexadecimal, hexadecimal_0, top_digit}
use Rattle.masm.proofs.Leaves.{is_number, number_text}

-- ---- Digits

digits_spell : T (below 16 (λ d. spells (digit d) d))
unfolding digit
digits_spell = tt

no_digits : (v : ℕ) → digits zero v ≡ []
unfolding digits
no_digits v = refl

one_more : (k v : ℕ) → digits (suc k) v ≡ digits k (v / 16) ++ (digit (v % 16) ∷ [])
unfolding digits
one_more k v = refl

-- a digit below ten is a decimal one
decimal : (d : ℕ) → d < 10 → T (is_digit (digit d))
unfolding digit
decimal d h = below_at 10 (λ d. is_digit (digit d)) tt d h

module _ (j v : ℕ) (fits : v < 16 ^ suc j) (small : v < 2 ^ 32) where
  top_below : v / 16 ^ j < 16
  top_below = (div-lt_iff_lt-mul {k = 16 ^ j} {x = v} {y = 16} (one-le-pow j 16 (lit< tt))).1 (rw (← (pow-succ' 16 j)) fits)

  -- k digits, with a 0 in front where the top one is a letter, and an `h`
  by_top : (letter : Bool) → leb 10 (v / 16 ^ j) ≡ letter → NumberText v (when letter (bytes "0") ++ (digits (suc j) v ++ bytes "h"))
  by_top true e = rw (mod-eq_of_lt fits) at (hexadecimal_0 digit digits digits_spell no_digits one_more (suc j) v (rw (mod-eq_of_lt fits) small))
  by_top false e =
      rw (mod-eq_of_lt fits) at
      (hexadecimal digit digits digits_spell no_digits one_more (suc j) v (rw (mod-eq_of_lt fits) small)
      (rw (top_digit digit digits digits_spell no_digits one_more is_digit j v (bytes "h"), mod-eq_of_lt top_below)
      (decimal (v / 16 ^ j) (leb-false 10 (v / 16 ^ j) e))))

  figure-parts : figure (suc j) v ++ bytes "h" ≡ when (leb 10 (v / 16 ^ j)) (bytes "0") ++ (digits (suc j) v ++ bytes "h")
  unfolding figure
  figure-parts =
      let one_less : suc j - 1 ≡ j = omega arith in
      rw one_less (append_assoc (when (leb 10 (v / 16 ^ j)) (bytes "0")) (digits (suc j) v) (bytes "h"))

  pub figure_text : NumberText v (figure (suc j) v ++ bytes "h")
  figure_text = rw figure-parts (by_top (leb 10 (v / 16 ^ j)) refl)

-- ---- Places

enough_or : (v n m : ℕ) (b : Bool) → ltb v (16 ^ n) ≡ b → v < 16 ^ m → v < 16 ^ cond b n m
enough_or v n m true e h = ltb-true v (16 ^ n) e
enough_or v n m false e h = h

at_least_or : (n m : ℕ) (b : Bool) → n ≤ m → n ≤ cond b n m
at_least_or n m true h = le_refl n
at_least_or n m false h = h

-- places are found in which the number can be written, and at least as many as are asked for
places_enough : (n k v : ℕ) → v < 16 ^ (n + k) → v < 16 ^ places_from n k v
unfolding places_from
places_enough n zero v h = rw add-zero at h
places_enough n (suc k) v h =
    enough_or v n (places_from (suc n) k v) (ltb v (16 ^ n)) refl (places_enough (suc n) k v (rw (suc-add, ← add-suc) h))

places_from_lem : (n k v : ℕ) → n ≤ places_from n k v
unfolding places_from
places_from_lem n zero v = le_refl n
places_from_lem n (suc k) v = at_least_or n (places_from (suc n) k v) (ltb v (16 ^ n)) (omega (arith, places_from_lem (suc n) k v))

-- ---- Numerals

-- a number below ten is its digit
numeral-small : (v : ℕ) → v < 10 → NumberText v (numeral v)
unfolding is_number tokens read_numeral numeral figure digits digit places places_from
numeral-small v h = number_text (below_at 10 (λ d. is_number d (numeral d)) tt v h)

-- any other is hexadecimal
module _ (v : ℕ) (high : 9 < v) where
  from_places : (k : ℕ) → 1 ≤ k → v < 16 ^ k → v < 2 ^ 32 → NumberText v (figure k v ++ bytes "h")
  from_places zero some fits small = absurd (omega arith)
  from_places (suc j) some fits small = figure_text j v fits small

  numeral_large : v < 2 ^ 32 → NumberText v (numeral v)
  unfolding numeral places
  numeral_large fits = rw (lt-ltb 9 v high) (from_places (places v) (places_from_lem 1 7 v) (places_enough 1 7 v fits) fits)

pub numeral_text : (v : ℕ) → v < 2 ^ 32 → NumberText v (numeral v)
numeral_text v fits = elim (dec_lt v 10) [ yes h ↦ numeral-small v h | no h ↦ numeral_large v (omega arith) fits ]

-- ---- Absolutes

pub absolute_text_lem : (j v : ℕ) → v < 16 ^ suc j → v < 2 ^ 32 → NumberText v (absolute (suc j) v)
unfolding absolute
absolute_text_lem j v fits small = figure_text j v fits small
