-- Whether two records are named, and of which kind: exactly by their bodies and their lines.
-- Assumes nothing.
use mathlib.Core.Path.{◌≡◌, refl, sym, ap, subst}
use mathlib.Core.Bool.{Bool, true, false, cond}
use mathlib.Core.Logic.{◌↔◌}
use mathlib.Core.List.{List}
use Prim.Native.Nat.{ℕ}
use native.Mathlib.Omega.{arith}
use Rattle.text.specs.Words.{same}
use Rattle.records.specs.Lines.{record_line}
use Rattle.compared.specs.declared.AskedSides.{AskedSides}
use Rattle.compared.specs.Places.{Found}
use Rattle.compared.specs.Places.Found.{found, none}
use Rattle.compared.specs.Events.{Kind, kind_of, naming}
use Rattle.compared.specs.Events.Kind.{differ, same_line, only_first, only_second}
use Rattle.compared.specs.Events.Naming.{unnamed, named}
use Rattle.compared.proofs.SameBytes.{same_equal, same_itself, equal_same, same_unequal, unequal_same}

-- DEFINITION: what a kind says of what stands on the first side and on the second
--   differ:      records with other bodies, and other lines: these
--   same_line:    records with other bodies, and this line both
--   only_first:   a record and none, its line this
--   only_second:  none and a record, its line this
abbrev pub Says : AskedSides → (first second : Found) → Kind → Type 0
Says sides f g (differ l m) = (a : List ℕ) × (b : List ℕ) × (f ≡ found a) × (g ≡ found b) × (a ≡ b → ⊥) × (record_line sides.first a ≡ l) × (record_line sides.second b ≡ m) × (l ≡ m → ⊥)
Says sides f g (same_line l) = (a : List ℕ) × (b : List ℕ) × (f ≡ found a) × (g ≡ found b) × (a ≡ b → ⊥) × (record_line sides.first a ≡ l) × (record_line sides.second b ≡ l)
Says sides f g (only_first l) = (a : List ℕ) × (f ≡ found a) × (g ≡ none) × (l ≡ record_line sides.first a)
Says sides f g (only_second l) = (b : List ℕ) × (f ≡ none) × (g ≡ found b) × (l ≡ record_line sides.second b)

module _ (sides : AskedSides) where
  -- two records are not named exactly if they are the same, or neither is there
  pub unnamed_exactly : (f g : Found) → (naming sides f g ≡ unnamed) ↔ (f ≡ g)
  unnamed_exactly (found a) (found b) = (λ e. ap found (same_equal a b (go (same a b) e)), λ e. rw (equal_same a b cc))
    where
      go : (t : Bool) → cond t unnamed (named (kind_of (record_line sides.first a) (record_line sides.second b))) ≡ unnamed → t ≡ true
      go true e = refl
      go false e = cc
  unnamed_exactly (found a) none = (λ e. cc, λ e. cc)
  unnamed_exactly none (found b) = (λ e. cc, λ e. cc)
  unnamed_exactly none none = (λ e. refl, λ e. refl)

  -- where lines are shown of two records that differ, the kind says which
  kind_says : (a b : List ℕ) → (a ≡ b → ⊥) → Says sides (found a) (found b) (kind_of (record_line sides.first a) (record_line sides.second b))
  kind_says a b other = go (same l m) refl
    where
      l : List ℕ
      l = record_line sides.first a

      m : List ℕ
      m = record_line sides.second b

      go : (t : Bool) → same l m ≡ t → Says sides (found a) (found b) (cond t (same_line l) (differ l m))
      go true e = (a, b, refl, refl, other, refl, sym (same_equal l m e))
      go false e = (a, b, refl, refl, other, refl, refl, same_unequal l m e)

  naming-says : (f g : Found) (kind : Kind) → naming sides f g ≡ named kind → Says sides f g kind
  naming-says (found a) (found b) kind e = go (same a b) refl e
    where
      go : (t : Bool) → same a b ≡ t → cond t unnamed (named (kind_of (record_line sides.first a) (record_line sides.second b))) ≡ named kind → Says sides (found a) (found b) kind
      go true s e = absurd (let z : ◌≡◌ {A = ℕ} 0 1 = cc in omega (arith, z))
      go false s e =
          let is : kind_of (record_line sides.first a) (record_line sides.second b) ≡ kind = cc in
          subst (Says sides (found a) (found b)) is (kind_says a b (same_unequal a b s))
  naming-says (found a) none kind e =
      let is : only_first (record_line sides.first a) ≡ kind = cc in
      subst (Says sides (found a) none) is (a, refl, refl, refl)
  naming-says none (found b) kind e =
      let is : only_second (record_line sides.second b) ≡ kind = cc in
      subst (Says sides none (found b)) is (b, refl, refl, refl)
  naming-says none none kind e = absurd (let z : ◌≡◌ {A = ℕ} 0 1 = cc in omega (arith, z))

  says-naming : (f g : Found) (kind : Kind) → Says sides f g kind → naming sides f g ≡ named kind
  says-naming f g (differ l m) s =
      rw (s.2, s.3, unequal_same s.0 s.1 s.4, s.5, s.6, unequal_same l m s.7)
  says-naming f g (same_line l) s = rw (s.2, s.3, unequal_same s.0 s.1 s.4, s.5, s.6, same_itself l)
  says-naming f g (only_first l) s = rw (s.1, s.2, s.3)
  says-naming f g (only_second l) s = rw (s.1, s.2, s.3)

  -- two records are named with a kind exactly if what the kind says holds of them
  pub naming_exactly : (f g : Found) (kind : Kind) → (naming sides f g ≡ named kind) ↔ Says sides f g kind
  naming_exactly f g kind = (naming-says f g kind, says-naming f g kind)
