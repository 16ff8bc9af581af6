-- The first refusal that applies: it is one, `answer_of` finds it, and where the numbers ascend it is the lowest that applies.
-- Assumes nothing.
use mathlib.Core.Path.{◌≡◌, refl, sym, subst, ◌∙◌}
use mathlib.Core.Bool.{Bool, true, false, cond, not, ◌&&◌, true≢false}
use mathlib.Core.Logic.{◌⊎◌, inl, inr, ◌↔◌}
use mathlib.Core.List.{List, [], ◌∷◌, ◌++◌}
use Prim.Native.Nat.{ℕ, ◌≤◌, ◌<◌}
use native.Mathlib.Omega.{arith}
use lib.Dec.{T, eqb, ltb}
use borrow.Author.Tests.{eq-eqb, ne_eqb, ltb-true, eqb-false, not-true}
use Rattle.text.specs.Words.{every}
use Rattle.text.proofs.Tables.{both_left, both_right, so}
use Rattle.answers.specs.Refusals.{Refusal, answer_of, First, here, later, None, NeverZero, ascending, applies, Lowest}

-- a test is one of two
two : (b : Bool) → (b ≡ true) ⊎ (b ≡ false)
two true = inl refl
two false = inr refl

-- one applies first, or none does
pub first_or_none : (rs : List Refusal) → First rs (answer_of rs) ⊎ None rs
first_or_none [] = inr tt
first_or_none (r ∷ rs) = go (two r.applies) (first_or_none rs)
  where
    go : (r.applies ≡ true) ⊎ (r.applies ≡ false) → First rs (answer_of rs) ⊎ None rs → First (r ∷ rs) (answer_of (r ∷ rs)) ⊎ None (r ∷ rs)
    go (inl e) f = inl (subst (First (r ∷ rs)) (rw e) (here e))
    go (inr e) (inl f) = inl (subst (First (r ∷ rs)) (rw e) (later e f))
    go (inr e) (inr n) = inr (e, n)

-- none applies where the answer is 0
pub none_answer : (rs : List Refusal) → None rs → answer_of rs ≡ 0
none_answer [] n = refl
none_answer (r ∷ rs) n = rw n.0 (none_answer rs n.1)

-- the first is the answer
pub first_answer : {rs : List Refusal} {k : ℕ} → First rs k → answer_of rs ≡ k
first_answer (here e) = rw e
first_answer (later e f) = rw e (first_answer f)

-- a refusal's number is not 0
pub first_some : {rs : List Refusal} {k : ℕ} → NeverZero rs → First rs k → 0 < k
first_some n (here e) = n.0
first_some n (later e f) = first_some n.1 f

pub none_or_answer : (rs : List Refusal) → NeverZero rs → answer_of rs ≡ 0 → None rs
none_or_answer rs numbered e = go (first_or_none rs)
  where
    go : First rs (answer_of rs) ⊎ None rs → None rs
    go (inl f) = absurd (omega (arith, first_some numbered f, e))
    go (inr n) = n

-- `answer_of` answers by the table's rules
pub refused_as_lem : (rs : List Refusal) → NeverZero rs → (k : ℕ) → 0 < k → (answer_of rs ≡ k) ↔ First rs k
refused_as_lem rs numbered k h = (λ e. there e (first_or_none rs), λ f. first_answer f)
  where
    there : answer_of rs ≡ k → First rs (answer_of rs) ⊎ None rs → First rs k
    there e (inl f) = subst (First rs) e f
    there e (inr n) = absurd (omega (arith, none_answer rs n, e))

pub printed_as : (rs : List Refusal) → NeverZero rs → (answer_of rs ≡ 0) ↔ None rs
printed_as rs numbered = (none_or_answer rs numbered, none_answer rs)

-- two lists, one after the other
append_by : (b : Bool) (n x y z : ℕ) → 0 < n → cond b n x ≡ 0 → (x ≡ 0 → y ≡ z) → cond b n y ≡ z
append_by true n x y z some e more = absurd (omega (arith, some, e))
append_by false n x y z some e more = more e

pub answer_append : (rs ss : List Refusal) → NeverZero rs → answer_of rs ≡ 0 → answer_of (rs ++ ss) ≡ answer_of ss
answer_append [] ss numbered e = refl
answer_append (r ∷ rs) ss numbered e = append_by r.applies r.number (answer_of rs) (answer_of (rs ++ ss)) (answer_of ss) numbered.0 e (answer_append rs ss numbered.1)

before_by : (b : Bool) (n x y k : ℕ) → cond b n x ≡ k → (x ≡ k → y ≡ k) → cond b n y ≡ k
before_by true n x y k e more = e
before_by false n x y k e more = more e

pub answer_before : (rs ss : List Refusal) {k : ℕ} → 0 < k → answer_of rs ≡ k → answer_of (rs ++ ss) ≡ k
answer_before [] ss h e = absurd (omega (arith, e))
answer_before (r ∷ rs) ss h e = before_by r.applies r.number (answer_of rs) (answer_of (rs ++ ss)) _ e (answer_before rs ss h)

-- where the numbers ascend, the first that applies is "the lowest number that applies"

-- all numbers are above n
abbrev Above : List Refusal → ℕ → Type 0
Above [] n = Unit {0}
Above (r ∷ rs) n = (n < r.number) × Above rs n

above_more : (rs : List Refusal) {m n : ℕ} → m < n → Above rs n → Above rs m
above_more [] h a = tt
above_more (r ∷ rs) h a = (omega (arith, h, a.0), above_more rs h a.1)

both_true : (s t : Bool) → (s && t) ≡ true → (s ≡ true) × (t ≡ true)
both_true true t e = (refl, e)
both_true false t e = (cc, cc)

ascending_rest : (r : Refusal) (rs : List Refusal) → ascending (r ∷ rs) ≡ true → ascending rs ≡ true
ascending_rest r [] e = refl
ascending_rest r (s ∷ rs) e = (both_true (ltb r.number s.number) (ascending (s ∷ rs)) e).1

ascending_above : (r : Refusal) (rs : List Refusal) → ascending (r ∷ rs) ≡ true → Above rs r.number
ascending_above r [] e = tt
ascending_above r (s ∷ rs) e =
    let t = both_true (ltb r.number s.number) (ascending (s ∷ rs)) e in
    let h = ltb-true r.number s.number t.0 in
    (h, above_more rs h (ascending_above s rs t.1))

above_not : (rs : List Refusal) {n : ℕ} (j : ℕ) → j ≤ n → Above rs n → applies rs j ≡ false
above_not [] j h a = refl
above_not (r ∷ rs) j h a = rw (ne_eqb r.number j (λ e. omega (arith, h, a.0, e))) (above_not rs j h a.1)

and_no : (s : Bool) → (s && false) ≡ false
and_no true = refl
and_no false = refl

passed : (r : Refusal) (rs : List Refusal) (j : ℕ) → r.applies ≡ false → applies (r ∷ rs) j ≡ applies rs j
passed r rs j e = rw (e, and_no (eqb r.number j))

first_lowest : {rs : List Refusal} {k : ℕ} → ascending rs ≡ true → First rs k → Lowest rs k
first_lowest up (here {r} {rs} e) =
    record {
      own = rw (eq-eqb r.number r.number refl, e);
      none_below = λ j h. rw (ne_eqb r.number j (λ q. omega (arith, h, q))) (above_not rs j (omega (arith, h)) (ascending_above r rs up));
    }
first_lowest up (later {r} {rs} e f) =
    let low = first_lowest (ascending_rest r rs up) f in
    record {
      own = passed r rs _ e ∙ low.own;
      none_below = λ j h. passed r rs j e ∙ low.none_below j h;
    }

none-applies : (rs : List Refusal) (j : ℕ) → None rs → applies rs j ≡ false
none-applies [] j n = refl
none-applies (r ∷ rs) j n = passed r rs j n.0 ∙ none-applies rs j n.1

not_lower : {rs : List Refusal} {j k : ℕ} → Lowest rs j → Lowest rs k → j < k → ⊥
not_lower {j = j} low other h = true≢false (sym low.own ∙ other.none_below j h)

pub ascending_lowest : (rs : List Refusal) → ascending rs ≡ true → (k : ℕ) → First rs k ↔ Lowest rs k
ascending_lowest rs up k = (first_lowest up, λ low. there low (first_or_none rs))
  where
    there : Lowest rs k → First rs (answer_of rs) ⊎ None rs → First rs k
    there low (inl f) =
        let other = first_lowest up f in
        subst (First rs) (omega (arith, not_lower low other, not_lower other low)) f
    there low (inr n) = absurd (true≢false (sym low.own ∙ none-applies rs k n))

-- What every number of a list passes as one computed test, its answer passes.
pub never-zero_by : (rs : List Refusal) → T (every (λ (r : Refusal). ltb 0 r.number) rs) → NeverZero rs
never-zero_by [] t = tt
never-zero_by (r ∷ rs) t =
    let f : Refusal → Bool = λ (s : Refusal). ltb 0 s.number in
    (ltb-true 0 r.number (so (f r) (both_left (f r) (every f rs) t)), never-zero_by rs (both_right (f r) (every f rs) t))

below_by : (b : Bool) (m x n : ℕ) → m < n → x < n → cond b m x < n
below_by true m x n h l = h
below_by false m x n h l = l

pub answer_below : (n : ℕ) (rs : List Refusal) → 0 < n → T (every (λ (r : Refusal). ltb r.number n) rs) → answer_of rs < n
answer_below n [] h t = h
answer_below n (r ∷ rs) h t =
    let f : Refusal → Bool = λ (s : Refusal). ltb s.number n in
    below_by r.applies r.number (answer_of rs) n (ltb-true r.number n (so (f r) (both_left (f r) (every f rs) t))) (answer_below n rs h (both_right (f r) (every f rs) t))

not_by : (b : Bool) (m x n : ℕ) → (m ≡ n → ⊥) → (x ≡ n → ⊥) → cond b m x ≡ n → ⊥
not_by true m x n f g = f
not_by false m x n f g = g

pub answer_not : (n : ℕ) (rs : List Refusal) → 0 < n → T (every (λ (r : Refusal). not (eqb r.number n)) rs) → answer_of rs ≡ n → ⊥
answer_not n [] h t = λ e. omega (arith, h, e)
answer_not n (r ∷ rs) h t =
    let f : Refusal → Bool = λ (s : Refusal). not (eqb s.number n) in
    not_by r.applies r.number (answer_of rs) n
    (eqb-false r.number n (not-true (eqb r.number n) (so (f r) (both_left (f r) (every f rs) t))))
    (answer_not n rs h (both_right (f r) (every f rs) t))
