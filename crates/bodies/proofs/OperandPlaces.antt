-- Where the operands of a body stand, in a body of any bytes: five or six bytes each, and five where none before has a mask.
-- Assumes nothing.
use mathlib.Core.Bool.{Bool, true, false, cond, true≢false, ◌||◌}
use mathlib.Core.List.{List}
use mathlib.Core.Path.{◌≡◌, refl, sym, ◌∙◌, ap}
use Prim.Native.Nat.{ℕ, zero, suc, ◌+◌, ◌*◌, ◌≤◌, ◌<◌}
use native.Mathlib.Omega.{arith}
use native.Mathlib.Decide.{dec_lt}
use Rattle.operands.specs.Kinds.{is_masked}
use Rattle.bodies.specs.Body.{operand_size, place_after, place_of, kind_at, any_masked}
use Rattle.bodies.proofs.Picks.{neither_left, neither_right, picked}

pub size_least : (kind : ℕ) → 5 ≤ operand_size kind
size_least kind = picked (λ (n : ℕ). 5 ≤ n) (is_masked kind) 6 5 (λ e. omega arith) (λ e. omega arith)

pub size_most : (kind : ℕ) → operand_size kind ≤ 6
size_most kind = picked (λ (n : ℕ). n ≤ 6) (is_masked kind) 6 5 (λ e. omega arith) (λ e. omega arith)

module _ (body : List ℕ) where
  pub place_first : place_of body 0 ≡ 14
  unfolding place_of
  place_first = refl

  pub place_next : (k : ℕ) → place_of body (suc k) ≡ place_after body (place_of body k)
  unfolding place_of
  place_next k = refl

  pub masked_first : any_masked body 0 ≡ false
  unfolding any_masked
  masked_first = refl

  pub masked_next : (n : ℕ) → any_masked body (suc n) ≡ (any_masked body n || is_masked (kind_at body n))
  unfolding any_masked
  masked_next n = refl

  -- the same, where one is added as code adds it
  pub place_step : (k : ℕ) → place_of body (k + 1) ≡ place_after body (place_of body k)
  place_step k = let more : k + 1 ≡ suc k = omega arith in rw more (place_next k)

  pub masked_step : (n : ℕ) → any_masked body (n + 1) ≡ (any_masked body n || is_masked (kind_at body n))
  masked_step n = let more : n + 1 ≡ suc n = omega arith in rw more (masked_next n)

  -- five bytes for each operand at least, and six at most
  pub place_least : (k : ℕ) → 14 + 5 * k ≤ place_of body k
  place_least zero = omega (arith, place_first)
  place_least (suc k) = omega (arith, place_next k, place_least k, size_least (kind_at body k))

  pub place_most : (k : ℕ) → place_of body k ≤ 14 + 6 * k
  place_most zero = omega (arith, place_first)
  place_most (suc k) = omega (arith, place_next k, place_most k, size_most (kind_at body k))

  -- of two operands the later one stands after the other
  pub place_after_lem : (j k : ℕ) → j < k → place_of body j + operand_size (kind_at body j) ≤ place_of body k
  place_after_lem j zero h = absurd (omega arith)
  place_after_lem j (suc k) h = after (place_after_lem j k) (place_next k) (place_next j)
    where
      after : (j < k → place_of body j + operand_size (kind_at body j) ≤ place_of body k) → place_of body (suc k) ≡ place_after body (place_of body k) → place_of body (suc j) ≡ place_after body (place_of body j) → place_of body j + operand_size (kind_at body j) ≤ place_of body (suc k)
      after before e f =
          elim (dec_lt j k) [
            | yes l ↦ omega (arith, before l)
            | no l ↦ let same : j ≡ k = omega (arith, h, l) in rw same (omega (arith, e))
          ]

  -- before an operand that none has a mask before
  pub place_unmasked : (k : ℕ) → any_masked body k ≡ false → place_of body k ≡ 14 + 5 * k
  place_unmasked zero e = place_first
  place_unmasked (suc k) e =
      let f = sym (masked_next k) ∙ e in
      let l = place_unmasked k (neither_left (any_masked body k) (is_masked (kind_at body k)) f) in
      let s : operand_size (kind_at body k) ≡ 5 = ap (λ (t : Bool). cond t 6 5) (neither_right (any_masked body k) (is_masked (kind_at body k)) f) in
      omega (arith, place_next k, l, s)

  -- and after one that has
  pub place_masked : (k : ℕ) → any_masked body k ≡ true → 15 + 5 * k ≤ place_of body k
  place_masked zero e = absurd (true≢false (sym e ∙ masked_first))
  place_masked (suc k) e = by (any_masked body k) refl (place_masked k) (place_least k) (place_next k) (sym (masked_next k) ∙ e)
    where
      by : (t : Bool) → any_masked body k ≡ t → (any_masked body k ≡ true → 15 + 5 * k ≤ place_of body k) → 14 + 5 * k ≤ place_of body k → place_of body (suc k) ≡ place_after body (place_of body k) → (any_masked body k || is_masked (kind_at body k)) ≡ true → 15 + 5 * suc k ≤ place_of body (suc k)
      by true f before least next g = omega (arith, next, before f, size_least (kind_at body k))
      by false f before least next g =
          let q : is_masked (kind_at body k) ≡ true = rw f at g in
          let s : operand_size (kind_at body k) ≡ 6 = ap (λ (t : Bool). cond t 6 5) q in
          omega (arith, next, least, s)

  -- what none of the operands has, none of fewer has
  pub none_masked : (k n : ℕ) → k ≤ n → any_masked body n ≡ false → any_masked body k ≡ false
  none_masked k zero h e = let none : k ≡ 0 = omega arith in rw none e
  none_masked k (suc n) h e =
      elim (dec_lt k (suc n)) [
        | yes l ↦ none_masked k n (omega arith) (neither_left (any_masked body n) (is_masked (kind_at body n)) (sym (masked_next n) ∙ e))
        | no l ↦ let same : k ≡ suc n = omega arith in rw same e
      ]

  pub not_masked : (k n : ℕ) → k < n → any_masked body n ≡ false → is_masked (kind_at body k) ≡ false
  not_masked k n h e =
      neither_right (any_masked body k) (is_masked (kind_at body k)) (sym (masked_next k) ∙ none_masked (suc k) n h e)
