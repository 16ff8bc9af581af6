-- A body by its version: its fields from its front and its rest, and what its length says of theirs.
-- Assumes nothing.
use mathlib.Core.Bool.{true, false}
use mathlib.Core.Path.{◌≡◌, refl, ◌∙◌}
use mathlib.Core.List.{List, [], ◌∷◌, ◌++◌}
use Prim.Native.Nat.{ℕ, zero, suc, ◌+◌, ◌-◌, ◌≤◌, ◌<◌, min}
use native.Mathlib.Omega.{arith}
use lib.Dec.{eqb}
use lib.ListN.{length, length-append, length-take, length-drop, take, drop}
use lib.Seq.{get_or-drop}
use Rattle.frames.specs.Numbers.{byte}
use Rattle.bodies.specs.Code.{rest_at, front_of, fields_by, in_fields}
use Rattle.bodies.specs.WellFormed.{Bytes}
use Rattle.bodies.specs.Refusals.{length_refused, longest_fields, longest_body}
use Rattle.bodies.specs.Versions.{fields}
use Rattle.bodies.proofs.Picks.{picked}
use Rattle.bodies.proofs.Lengths.{short_refused, long_refused}

-- version 1's body is its fields, and version 2's has four bytes more
abbrev without : List ℕ → List ℕ
without body = take 4 body ++ drop 8 body

by_version : (P : List ℕ → Type 0) (version : ℕ) (body : List ℕ) → (eqb version 2 ≡ true → P (without body)) → (eqb version 2 ≡ false → P body) → P (fields version body)
unfolding fields
by_version P version body f g = picked P (eqb version 2) (without body) body f g

-- ---- The front and the rest

first_four : (body : List ℕ) → 4 ≤ length body → byte body 0 ∷ byte body 1 ∷ byte body 2 ∷ byte body 3 ∷ drop 4 body ≡ body
first_four [] h = absurd (omega arith)
first_four (a ∷ []) h = absurd (omega arith)
first_four (a ∷ b ∷ []) h = absurd (omega arith)
first_four (a ∷ b ∷ c ∷ []) h = absurd (omega arith)
first_four (a ∷ b ∷ c ∷ d ∷ xs) h = refl

without-four : (body : List ℕ) → 4 ≤ length body → byte body 0 ∷ byte body 1 ∷ byte body 2 ∷ byte body 3 ∷ drop 8 body ≡ without body
without-four [] h = absurd (omega arith)
without-four (a ∷ []) h = absurd (omega arith)
without-four (a ∷ b ∷ []) h = absurd (omega arith)
without-four (a ∷ b ∷ c ∷ []) h = absurd (omega arith)
without-four (a ∷ b ∷ c ∷ d ∷ xs) h = refl

module _ (version : ℕ) where
  pub rest_least : 4 ≤ rest_at version
  rest_least = picked (λ (n : ℕ). 4 ≤ n) (eqb version 2) 8 4 (λ e. omega arith) (λ e. omega arith)

  -- they are the fields
  pub fields_by_lem : (body : List ℕ) → rest_at version ≤ length body → fields_by (front_of version body) (drop (rest_at version) body) ≡ fields version body
  fields_by_lem body h =
      by_version (λ (f : List ℕ). fields_by (front_of version body) (drop (rest_at version) body) ≡ f) version body
      (λ e. rw e (without-four body (omega (arith, h, rest_least))))
      (λ e. rw e (first_four body (omega (arith, h, rest_least))))

-- ---- Lengths

length_without : (body : List ℕ) → length (without body) ≡ min 4 (length body) + (length body - 8)
length_without body = length-append (take 4 body) (drop 8 body) ∙ rw (length-take 4 body, length-drop 8 body)

-- the fields are no longer than the body
pub fields_most : (version : ℕ) (body : List ℕ) → length (fields version body) ≤ length body
fields_most version body =
    by_version (λ (f : List ℕ). length f ≤ length body) version body (λ e. omega (arith, length_without body)) (λ e. omega arith)

-- no bytes are no fields
pub fields-empty : (version : ℕ) → fields version [] ≡ []
fields-empty version = by_version (λ (f : List ℕ). f ≡ []) version [] (λ e. refl) (λ e. refl)

-- a body that ends before its rest begins is too short
pub front_refused : (version : ℕ) (body : List ℕ) → length body < rest_at version → length_refused (fields version body) ≡ true
front_refused version body h =
    short_refused (fields version body)
    (by_version (λ (f : List ℕ). length f < 14) version body
    (λ e. omega (arith, length_without body, rw e at h))
    (λ e. omega (arith, rw e at h)))

-- a body whose length is right holds its rest
pub rest_within : (version : ℕ) (body : List ℕ) → 14 ≤ length (fields version body) → rest_at version ≤ length body
rest_within version body =
    by_version (λ (f : List ℕ). 14 ≤ length f → rest_at version ≤ length body) version body
    (λ e h. rw e (omega (arith, length_without body, h)))
    (λ e h. rw e (omega (arith, h)))

-- ---- Bytes

bytes-without : (body : List ℕ) → Bytes body → Bytes (without body)
bytes-without [] b at = omega arith
bytes-without (x ∷ []) b at = b at
bytes-without (x ∷ y ∷ []) b at = b at
bytes-without (x ∷ y ∷ z ∷ []) b at = b at
bytes-without (x ∷ y ∷ z ∷ w ∷ xs) b zero = b 0
bytes-without (x ∷ y ∷ z ∷ w ∷ xs) b (suc zero) = b 1
bytes-without (x ∷ y ∷ z ∷ w ∷ xs) b (suc (suc zero)) = b 2
bytes-without (x ∷ y ∷ z ∷ w ∷ xs) b (suc (suc (suc zero))) = b 3
bytes-without (x ∷ y ∷ z ∷ w ∷ xs) b (suc (suc (suc (suc at)))) = rw (get_or-drop 4 xs at 0) (b (in_fields (4 + at)))

-- the fields of a body of bytes are bytes
pub fields-bytes : (version : ℕ) (body : List ℕ) → Bytes body → Bytes (fields version body)
fields-bytes version body b = by_version Bytes version body (λ e. bytes-without body b) (λ e. b)

-- no right body is longer, in either version
pub long_body_refused : (version : ℕ) (body : List ℕ) → longest_body < length body → Bytes body → length_refused (fields version body) ≡ true
long_body_refused version body long b =
    long_refused (fields version body)
    (by_version (λ (f : List ℕ). longest_fields < length f) version body (λ e. omega (arith, length_without body, long)) (λ e. omega (arith, long)))
    (fields-bytes version body b 13)
