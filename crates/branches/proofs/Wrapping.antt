-- "The sum wraps in the width of the distance": the lowest w bits of value plus length, read as signed, are a number of w signed
-- bits, and are distance plus length itself, or that less 2 ^ w.
-- Assumes nothing.
use Rattle.std.proofs.Common.{◌≡◌, ℕ, zero, suc, ◌+◌, ◌-◌, ◌%◌, ◌^◌, ◌<◌, ◌≤◌, ◌⊎◌, ℤ, pos, negsuc, ◌+ℤ◌, ◌-ℤ◌, sym, refl, ap, ◌∙◌, inl, inr, mod-lt, mod-eq_of_lt, arith, lit<, le-ltb, lt-ltb}
use native.Mathlib.Nat.{mod-eq-sub-mod, mod-add-mod}
use native.Mathlib.Decide.{dec_lt}
use lib.IntN.{sub_ℕ}
use Rattle.branches.specs.Sums.{signed}

-- a difference of two numbers, by which of them is the less
less : (a b : ℕ) → a < b → sub_ℕ a b ≡ negsuc (b - suc a)
less a b h = rw (lt-ltb a b h)

more : (a b : ℕ) → b ≤ a → sub_ℕ a b ≡ pos (a - b)
more a b h = rw (le-ltb a b h)

-- equal differences
same_difference : (a b c d : ℕ) → a + d ≡ c + b → sub_ℕ a b ≡ sub_ℕ c d
same_difference a b c d e =
    elim (dec_lt a b) [
      | yes h ↦ less a b h ∙ ap negsuc (omega arith) ∙ sym (less c d (omega arith))
      | no h ↦ more a b (omega arith) ∙ ap pos (omega arith) ∙ sym (more c d (omega arith))
    ]

difference_plus : (a b c : ℕ) → sub_ℕ a b +ℤ pos c ≡ sub_ℕ (a + c) b
difference_plus a b c =
    elim (dec_lt a b) [
      | yes h ↦ ap (λ (z : ℤ). z +ℤ pos c) (less a b h) ∙ same_difference c (suc (b - suc a)) (a + c) b (omega arith)
      | no h ↦ ap (λ (z : ℤ). z +ℤ pos c) (more a b (omega arith)) ∙ ap pos (omega arith) ∙ sym (more (a + c) b (omega arith))
    ]

difference_minus : (a b c : ℕ) → 0 < c → sub_ℕ a b -ℤ pos c ≡ sub_ℕ a (b + c)
difference_minus a b zero some = absurd (omega arith)
difference_minus a b (suc c) some =
    elim (dec_lt a b) [
      | yes h ↦ ap (λ (z : ℤ). z -ℤ pos (suc c)) (less a b h) ∙ ap negsuc (omega arith) ∙ sym (less a (b + suc c) (omega arith))
      | no h ↦ ap (λ (z : ℤ). z -ℤ pos (suc c)) (more a b (omega arith)) ∙ same_difference (a - b) (suc c) a (b + suc c) (omega arith)
    ]

-- a number of signed bits whose half is h
abbrev pub Within : ℕ → ℤ → Type 0
Within h (pos n) = n < h
Within h (negsuc n) = n < h

module _ (w : ℕ) (halves : 2 ^ w ≡ 2 ^ (w - 1) + 2 ^ (w - 1)) (some : 0 < 2 ^ w) where
  -- the bits that are read stand for themselves, or for 2 ^ w less
  low : (n : ℕ) → n % 2 ^ w < 2 ^ (w - 1) → signed w n ≡ sub_ℕ (n % 2 ^ w) 0
  unfolding signed
  low n h = rw (lt-ltb _ _ h) (ap pos (omega arith) ∙ sym (more (n % 2 ^ w) 0 (omega arith)))

  high : (n : ℕ) → 2 ^ (w - 1) ≤ n % 2 ^ w → signed w n ≡ sub_ℕ (n % 2 ^ w) (2 ^ w)
  unfolding signed
  high n h = rw (le-ltb _ _ h)

  -- what is read always fits
  pub signed_within : (n : ℕ) → Within (2 ^ (w - 1)) (signed w n)
  signed_within n =
      let bound = mod-lt n some in
      elim (dec_lt (n % 2 ^ w) (2 ^ (w - 1))) [
        | yes h ↦ rw (low n h, more (n % 2 ^ w) 0 (omega arith)) (omega arith)
        | no h ↦ rw (high n (omega arith), less (n % 2 ^ w) (2 ^ w) bound) (omega arith)
      ]

  module _ (n l : ℕ) (once : l < 2 ^ w) where
    sum_whole : (e f : ℕ) → signed w n ≡ sub_ℕ (n % 2 ^ w) e → signed w (n + l) ≡ sub_ℕ ((n + l) % 2 ^ w) f → (n + l) % 2 ^ w + e ≡ n % 2 ^ w + l + f → signed w (n + l) ≡ signed w n +ℤ pos l
    sum_whole e f before after same =
        after ∙ same_difference _ f _ e same ∙ sym (difference_plus _ e l) ∙ ap (λ (z : ℤ). z +ℤ pos l) (sym before)

    less_once : (e f : ℕ) → signed w n ≡ sub_ℕ (n % 2 ^ w) e → signed w (n + l) ≡ sub_ℕ ((n + l) % 2 ^ w) f → (n + l) % 2 ^ w + (e + 2 ^ w) ≡ n % 2 ^ w + l + f → signed w (n + l) ≡ signed w n +ℤ pos l -ℤ pos (2 ^ w)
    less_once e f before after same =
        after ∙ same_difference _ f _ (e + 2 ^ w) same ∙ sym (difference_minus _ e (2 ^ w) some)
        ∙ ap (λ (z : ℤ). z -ℤ pos (2 ^ w)) (sym (difference_plus _ e l) ∙ ap (λ (z : ℤ). z +ℤ pos l) (sym before))

    pub wrapped : (signed w (n + l) ≡ signed w n +ℤ pos l) ⊎ (signed w (n + l) ≡ signed w n +ℤ pos l -ℤ pos (2 ^ w))
    wrapped =
        let bound = mod-lt n some in
        let under : n % 2 ^ w + l < 2 ^ w → (n + l) % 2 ^ w ≡ n % 2 ^ w + l =
        λ h. sym (mod-add-mod n (2 ^ w) l) ∙ mod-eq_of_lt h in
        let over : 2 ^ w ≤ n % 2 ^ w + l → (n + l) % 2 ^ w ≡ n % 2 ^ w + l - 2 ^ w =
        λ h. sym (mod-add-mod n (2 ^ w) l) ∙ mod-eq-sub-mod h ∙ mod-eq_of_lt (omega arith) in
        elim (dec_lt (n % 2 ^ w) (2 ^ (w - 1))) [
          | yes a ↦
              elim (dec_lt (n % 2 ^ w + l) (2 ^ w)) [
                | yes b ↦
                    elim (dec_lt ((n + l) % 2 ^ w) (2 ^ (w - 1))) [
                      | yes c ↦ inl (sum_whole 0 0 (low n a) (low (n + l) c) (omega (arith, under b)))
                      | no c ↦ inr (less_once 0 (2 ^ w) (low n a) (high (n + l) (omega arith)) (omega (arith, under b)))
                    ]
                | no b ↦
                    let back = over (omega arith) in
                    inr (less_once 0 0 (low n a) (low (n + l) (omega arith)) (omega arith))
              ]
          | no a ↦
              elim (dec_lt (n % 2 ^ w + l) (2 ^ w)) [
                | yes b ↦
                    let on = under b in
                    inl (sum_whole (2 ^ w) (2 ^ w) (high n (omega arith)) (high (n + l) (omega arith)) (omega arith))
                | no b ↦
                    let back = over (omega arith) in
                    elim (dec_lt ((n + l) % 2 ^ w) (2 ^ (w - 1))) [
                      | yes c ↦ inl (sum_whole (2 ^ w) 0 (high n (omega arith)) (low (n + l) c) (omega arith))
                      | no c ↦ inr (less_once (2 ^ w) (2 ^ w) (high n (omega arith)) (high (n + l) (omega arith)) (omega arith))
                    ]
              ]
        ]

-- the two widths of mode 0
pub wrapped_8 : (value length : ℕ) → length < 2 ^ 8 → (signed 8 (value + length) ≡ signed 8 value +ℤ pos length) ⊎ (signed 8 (value + length) ≡ signed 8 value +ℤ pos length -ℤ pos (2 ^ 8))
wrapped_8 = wrapped 8 refl (lit< tt)

pub wrapped_32 : (value length : ℕ) → length < 2 ^ 32 → (signed 32 (value + length) ≡ signed 32 value +ℤ pos length) ⊎ (signed 32 (value + length) ≡ signed 32 value +ℤ pos length -ℤ pos (2 ^ 32))
wrapped_32 = wrapped 32 refl (lit< tt)
