-- How a text of digits is read: the leaf law of numbers.
use mathlib.Core.Path.{◌≡◌}
use mathlib.Core.Bool.{Bool, true, not, ◌&&◌}
use mathlib.Core.List.{List, [], ◌∷◌, ◌++◌, map, append_assoc, map-append}
use mathlib.Core.Option.{some}
use Prim.Native.Nat.{ℕ, zero, suc, ◌+◌, ◌*◌, ◌/◌, ◌%◌, ◌^◌, ◌<◌}
use native.Mathlib.Nat.{mod-lt, mod-one, div-one, div-div-eq-div-mul, pow-suc, pow-succ', mul-one, add-zero, zero-mul, zero-add, one-le-pow, not-suc-le-zero}
use native.Mathlib.Decide.{ℕ_discrete}
use native.Mathlib.Omega.{arith}
use lib.Arith.{mod-mul, lt→nleb}
use lib.Dec.{T, ltb, leb, eqb, eqb→eq, leb→le, lt→ltb, lit<}
use lib.Ieee.Bits.{is_true, is_false}
use Rattle.masm.specs.Tokens.{bytes, is_digit, is_word, small, word, tokens}
use Rattle.masm.specs.Expressions.{digit_value, value_from, begins, numeral}
use Rattle.masm.proofs.Tokens.{both, pair, all, all_append, one_word}

-- the text `u` is one word, which reads as the number `v`
pub record NumberText (v : ℕ) (u : List ℕ) : Type 0 where
  pub spelling : List ℕ
  pub one_token : tokens u ≡ word spelling ∷ []
  pub digit : T (begins is_digit spelling)
  pub value : numeral spelling ≡ some v

-- ---- A table's rule, by one computed test

abbrev pub below : ℕ → (ℕ → Bool) → Bool
below zero p = true
below (suc n) p = p n && below n p

pub below_at : (n : ℕ) (p : ℕ → Bool) → T (below n p) → (k : ℕ) → k < n → T (p k)
below_at zero p h k l = absurd (not-suc-le-zero l)
below_at (suc n) p h k l =
    let (a, b) = both (p n) (below n p) h in
    elim (ℕ_discrete k n) [ yes e ↦ rw e a | no e ↦ below_at n p b k (omega arith) ]

-- ---- Hexadecimal digits by place value

-- the character `c` is a digit of value `d`, and does not end a number
abbrev pub spells : ℕ → ℕ → Bool
spells c d = is_word c && (eqb (digit_value (small c)) d && not (eqb (small c) 104))

one-digit : (c d n : ℕ) (w : List ℕ) → d < 16 → T (spells c d)
    → value_from 16 (bytes "h") n (small c ∷ w) ≡ value_from 16 (bytes "h") (n * 16 + d) w
one-digit c d n w l h =
    let (a, b) = both (is_word c) (eqb (digit_value (small c)) d && not (eqb (small c) 104)) h in
    let (e, f) = both (eqb (digit_value (small c)) d) (not (eqb (small c) 104)) b in
    rw (is_false (eqb (small c) 104) f, eqb→eq (digit_value (small c)) d e, is_true (ltb d 16) (lt→ltb d 16 l))

place_value : (n k v : ℕ) → (n * 16 ^ k + v / 16 % 16 ^ k) * 16 + v % 16 ≡ n * 16 ^ suc k + v % 16 ^ suc k
place_value n k v = rw (pow-suc 16 k, mod-mul v (one-le-pow k 16 (lit< tt)) (lit< tt)) (omega arith)

digit-small : (c : ℕ) → T (is_digit c) → small c ≡ c
digit-small c h =
    let (a, b) = both (leb 48 c) (leb c 57) h in
    rw (is_false (leb 65 c) (lt→nleb 65 c (omega (arith, leb→le c 57 b))))

begins-small : (u : List ℕ) → T (begins is_digit u) → T (begins is_digit (map small u))
begins-small [] h = h
begins-small (c ∷ u) h = rw (digit-small c h) h

number_of : (v : ℕ) (w : List ℕ) → v < 2 ^ 32 → T (begins is_digit w) → value_from 16 (bytes "h") 0 w ≡ some v → numeral w ≡ some v
unfolding numeral
number_of v w l h e = rw (is_true (begins is_digit w) h, e, is_true (ltb v (2 ^ 32)) (lt→ltb v (2 ^ 32) l))

-- a text of digits and the `h` after them
hexadecimal_text : (v : ℕ) (u : List ℕ) → v < 2 ^ 32 → T (all is_word u) → T (begins is_digit u) → value_from 16 (bytes "h") 0 (map small u) ≡ some v
    → NumberText v u
hexadecimal_text v u l h k e =
    let b = begins-small u k in
    record {
      spelling = map small u;
      one_token = one_word is_digit u h k;
      digit = b;
      value = number_of v (map small u) l b e;
    }

-- Any way of writing digits by place value: `digits k v` are the last k of them, and `digit d` is the character for d.
module _ (digit : ℕ → ℕ) (digits : ℕ → ℕ → List ℕ) (rule : T (below 16 (λ d. spells (digit d) d)))
    (no_digits : (v : ℕ) → digits zero v ≡ []) (one_more : (k v : ℕ) → digits (suc k) v ≡ digits k (v / 16) ++ (digit (v % 16) ∷ []))
  where
    spelled : (v : ℕ) → T (spells (digit (v % 16)) (v % 16))
    spelled v = below_at 16 (λ d. spells (digit d) d) rule (v % 16) (mod-lt v (lit< tt))

    digits-word : (k v : ℕ) → T (all is_word (digits k v))
    digits-word zero v = rw (no_digits v) tt
    digits-word (suc k) v =
        let c : ℕ = digit (v % 16) in
        let (a, b) = both (is_word c) (eqb (digit_value (small c)) (v % 16) && not (eqb (small c) 104)) (spelled v) in
        rw (one_more k v) (all_append is_word (digits k (v / 16)) (c ∷ []) (digits-word k (v / 16)) (pair (is_word c) true a tt))

    digits_value : (k v n : ℕ) (w : List ℕ)
        → value_from 16 (bytes "h") n (map small (digits k v) ++ w) ≡ value_from 16 (bytes "h") (n * 16 ^ k + v % 16 ^ k) w
    digits_value zero v n w = rw (no_digits v, mul-one, mod-one, add-zero)
    digits_value (suc k) v n w =
        rw (
          one_more k v,
          map-append,
          append_assoc,
          digits_value k (v / 16) n,
          one-digit (digit (v % 16)) (v % 16),
          mod-lt v (lit< tt),
          spelled v,
          place_value n k v,
        )

    text_word : (k v : ℕ) → T (all is_word (digits k v ++ bytes "h"))
    text_word k v = all_append is_word (digits k v) (bytes "h") (digits-word k v) tt

    text_value : (k v : ℕ) → value_from 16 (bytes "h") 0 (map small (digits k v ++ bytes "h")) ≡ some (v % 16 ^ k)
    text_value k v = rw (map-append, digits_value k v 0, zero-mul, zero-add)

    -- the first of some digits
    pub top_digit : (p : ℕ → Bool) (j v : ℕ) (w : List ℕ) → begins p (digits (suc j) v ++ w) ≡ p (digit (v / 16 ^ j % 16))
    top_digit p zero v w = rw (one_more zero v, no_digits (v / 16), div-one)
    top_digit p (suc j) v w = rw (one_more (suc j) v, append_assoc, top_digit p j (v / 16), div-div-eq-div-mul, pow-succ')

    -- the digits and an `h`
    pub hexadecimal : (k v : ℕ) → v % 16 ^ k < 2 ^ 32 → T (begins is_digit (digits k v ++ bytes "h")) → NumberText (v % 16 ^ k) (digits k v ++ bytes "h")
    hexadecimal k v l h = hexadecimal_text (v % 16 ^ k) (digits k v ++ bytes "h") l (text_word k v) h (text_value k v)

    -- the same after a 0
    pub hexadecimal_0 : (k v : ℕ) → v % 16 ^ k < 2 ^ 32 → NumberText (v % 16 ^ k) (48 ∷ digits k v ++ bytes "h")
    hexadecimal_0 k v l = hexadecimal_text (v % 16 ^ k) (48 ∷ digits k v ++ bytes "h") l (text_word k v) tt (text_value k v)
