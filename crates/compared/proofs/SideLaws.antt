-- What is said of each side: that its version is not known, or that it is cut, exactly where that is so and the walk comes there.
-- Assumes nothing.
use mathlib.Core.Path.{◌≡◌, refl, sym, ap}
use mathlib.Core.Bool.{Bool, true, false, cond, ◌||◌}
use mathlib.Core.Logic.{inl, inr, ◌↔◌}
use mathlib.Core.List.{List}
use Prim.Native.Nat.{ℕ, zero, suc, ◌<◌}
use native.Mathlib.Nat.{le_of_suc-le-suc}
use native.Mathlib.Omega.{arith}
use Rattle.records.specs.declared.Asked.{Asked}
use Rattle.compared.specs.declared.AskedSides.{AskedSides}
use Rattle.compared.specs.declared.Side.TheVariants.{Sound, Cut, Version}
use Rattle.compared.specs.Places.{start_of, after, is_cut}
use Rattle.compared.specs.Report.{Report, report_of}
use Rattle.compared.specs.Statements.{SaidCut}
use Rattle.compared.proofs.Walks.{Walked, left, Started, started}
use Rattle.compared.proofs.Walks.Walked.{cut, over, on}
use Rattle.compared.proofs.Walks.Started.{sound, unsound}
use Rattle.compared.proofs.WalkEvents.{after_none, neither}
use Rattle.compared.proofs.Swapped.{report_swapped}

-- the same of what is left on both sides
record CutAhead (xs ys : List ℕ) : Type 0 where
  place : ℕ
  there : is_cut (after place xs) ≡ true
  other_uncut : (j : ℕ) → j < place → is_cut (after j ys) ≡ false

said_cut : (b : Bool) → cond b Cut Sound ≡ Cut → b ≡ true
said_cut true e = refl
said_cut false e = cc

first_of : (a : Bool) {b : Bool} → (a || b) ≡ true → b ≡ false → a ≡ true
first_of true e f = refl
first_of false e f = cc

never_version : (b : Bool) → cond b Cut Sound ≡ Version → ⊥
never_version true e = let z : ◌≡◌ {A = ℕ} 0 1 = cc in omega (arith, z)
never_version false e = let z : ◌≡◌ {A = ℕ} 0 1 = cc in omega (arith, z)

ahead_here : (xs ys : List ℕ) → is_cut xs ≡ true → CutAhead xs ys
unfolding after
ahead_here xs ys e = record { place = 0; there = e; other_uncut = λ j h. absurd (omega (arith, h)) }

ahead_left : (xs ys : List ℕ) → is_cut ys ≡ false → CutAhead (left xs) (left ys) → CutAhead xs ys
ahead_left xs ys e a = record { place = suc a.place; there = there; other_uncut = uncut }
  where
    there : is_cut (after (suc a.place) xs) ≡ true
    there = unfold after in a.there

    uncut : (j : ℕ) → j < suc a.place → is_cut (after j ys) ≡ false
    uncut zero h = unfold after in e
    uncut (suc j) h = unfold after in (a.other_uncut j (le_of_suc-le-suc h))

module _ {sides : AskedSides} where
  walk_cut_ahead : {n : ℕ} {xs ys : List ℕ} {r : Report} → Walked sides n xs ys r → r.first ≡ Cut → CutAhead xs ys
  walk_cut_ahead (cut {n} {xs} {ys} c) e = ahead_here xs ys (said_cut (is_cut xs) e)
  walk_cut_ahead over e = absurd (let z : ◌≡◌ {A = ℕ} 0 1 = cc in omega (arith, z))
  walk_cut_ahead (on {n} {xs} {ys} c some w) e = ahead_left xs ys (neither (is_cut xs) (is_cut ys) c).1 (walk_cut_ahead w e)

  ahead_walk_cut : {n : ℕ} {xs ys : List ℕ} {r : Report} → Walked sides n xs ys r → (k : ℕ) → is_cut (after k xs) ≡ true → ((j : ℕ) → j < k → is_cut (after j ys) ≡ false) → r.first ≡ Cut
  unfolding after
  ahead_walk_cut (cut {n} {xs} {ys} c) zero t f = rw t
  ahead_walk_cut (cut {n} {xs} {ys} c) (suc k) t f = rw (first_of (is_cut xs) c (f 0 (omega arith)))
  ahead_walk_cut over k t f = let e = after_none k in cc
  ahead_walk_cut (on c some w) zero t f = cc
  ahead_walk_cut (on c some w) (suc k) t f = ahead_walk_cut w k t (λ j h. f (suc j) (omega (arith, h)))

  walk-never_version : {n : ℕ} {xs ys : List ℕ} {r : Report} → Walked sides n xs ys r → r.first ≡ Version → ⊥
  walk-never_version (cut {n} {xs} {ys} c) e = never_version (is_cut xs) e
  walk-never_version over e = let z : ◌≡◌ {A = ℕ} 0 1 = cc in omega (arith, z)
  walk-never_version (on c some w) e = walk-never_version w e

module _ {asked : Asked} {first second : List ℕ} where
  report_cut : {r : Report} → Started asked first second r → r.first ≡ Cut → SaidCut first second
  report_cut (unsound u) e = inl e
  report_cut (sound s t w) e =
      let a = walk_cut_ahead w e in
      inr (s, t, record { place = a.place; there = a.there; other_uncut = a.other_uncut })

  cut_report : {r : Report} → Started asked first second r → SaidCut first second → r.first ≡ Cut
  cut_report (unsound u) (inl e) = e
  cut_report (unsound u) (inr c) = let s = c.0 in let t = c.1 in cc
  cut_report (sound s t w) (inl e) = cc
  cut_report (sound s t w) (inr c) = ahead_walk_cut w c.2.place c.2.there c.2.other_uncut

  report_version : {r : Report} → Started asked first second r → (r.first ≡ Version) ↔ (start_of first ≡ Version)
  report_version (unsound u) = (λ e. e, λ e. e)
  report_version (sound s t w) = (λ e. absurd (walk-never_version w e), λ e. cc)

module _ (asked : Asked) (first second : List ℕ) where
  -- "; version" is said of the first side exactly if its version byte is not known.
  pub first_version_exactly : ((report_of asked first second).first ≡ Version) ↔ (start_of first ≡ Version)
  first_version_exactly = report_version (started asked first second)

  -- "; cut" is said of it exactly if it has no byte, or both begin as they must and it is cut no later than the other.
  pub first_cut_exactly : ((report_of asked first second).first ≡ Cut) ↔ SaidCut first second
  first_cut_exactly = (report_cut (started asked first second), cut_report (started asked first second))

module _ (asked : Asked) (first second : List ℕ) where
  -- what is said of the second side is what is said of it where it is the first
  second_first : (report_of asked first second).second ≡ (report_of asked second first).first
  second_first = sym (ap (λ (r : Report). r.first) (report_swapped asked first second))

  -- the same of the second side
  pub second_version_exactly : ((report_of asked first second).second ≡ Version) ↔ (start_of second ≡ Version)
  second_version_exactly = rw second_first (first_version_exactly asked second first)

  pub second_cut_exactly : ((report_of asked first second).second ≡ Cut) ↔ SaidCut second first
  second_cut_exactly = rw second_first (first_cut_exactly asked second first)
