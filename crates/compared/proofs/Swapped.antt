-- The report on two listings that change sides: the same, with its sides exchanged.
-- Assumes nothing.
use mathlib.Core.Path.{◌≡◌, refl, sym, ap, ◌∙◌}
use mathlib.Core.Bool.{Bool, true, false, cond, and_comm, or_comm}
use mathlib.Core.List.{List, ◌++◌, map}
use Prim.Native.Nat.{ℕ}
use Rattle.text.specs.Words.{empty, same}
use Rattle.records.specs.declared.Asked.{Asked}
use Rattle.records.specs.Lines.{record_line}
use Rattle.compared.specs.declared.AskedSides.{AskedSides}
use Rattle.compared.specs.Places.{Found, start_of, front_record, is_cut}
use Rattle.compared.specs.Places.Found.{found, none}
use Rattle.compared.specs.Events.{Kind, Naming, kind_of, naming, Event, events_at}
use Rattle.compared.specs.Events.Kind.{differ, same_line}
use Rattle.compared.specs.Events.Naming.{unnamed, named}
use Rattle.compared.specs.Report.{Report, before, walk, is_sound, sides_of, report_of}
use Rattle.compared.specs.Statements.{swap_kind, swap_event, swapped}
use Rattle.compared.proofs.Walks.{walk_cut, walk-empty, walk_step, Walked, Started, started}
use Rattle.compared.proofs.Walks.Walked.{cut, over, on}
use Rattle.compared.proofs.Walks.Started.{sound, unsound}
use Rattle.compared.proofs.SameBytes.{same_equal, equal_same, same_unequal, unequal_same}

abbrev swap_naming : Naming → Naming
swap_naming unnamed = unnamed
swap_naming (named kind) = named (swap_kind kind)

same-swapped : (a b : List ℕ) → same b a ≡ same a b
same-swapped a b = go (same a b) refl
  where
    go : (t : Bool) → same a b ≡ t → same b a ≡ t
    go true e = equal_same b a (sym (same_equal a b e))
    go false e = unequal_same b a (λ equal. same_unequal a b e (sym equal))

kind_swapped : (l m : List ℕ) → kind_of m l ≡ swap_kind (kind_of l m)
kind_swapped l m = go (same l m) refl
  where
    go : (t : Bool) → same l m ≡ t → kind_of m l ≡ swap_kind (cond t (same_line l) (differ l m))
    go true e = rw (same-swapped l m, e) (ap same_line (sym (same_equal l m e)))
    go false e = rw (same-swapped l m, e)

swap_cond : (t : Bool) (kind : Kind) → cond t unnamed (named (swap_kind kind)) ≡ swap_naming (cond t unnamed (named kind))
swap_cond true kind = refl
swap_cond false kind = refl

swap_before : (n : ℕ) (what : Naming) (es : List Event) → map swap_event (events_at n what ++ es) ≡ events_at n (swap_naming what) ++ map swap_event es
swap_before n unnamed es = refl
swap_before n (named kind) es = refl

-- what is asked of each, with the sides exchanged
abbrev exchanged : AskedSides → AskedSides
exchanged sides = record { first = sides.second; second = sides.first }

module _ (sides : AskedSides) where
  naming-swapped : (f g : Found) → naming (exchanged sides) g f ≡ swap_naming (naming sides f g)
  naming-swapped (found a) (found b) =
      let l = record_line sides.first a in
      let m = record_line sides.second b in
      rw (same-swapped a b, kind_swapped l m) (swap_cond (same a b) (kind_of l m))
  naming-swapped (found a) none = refl
  naming-swapped none (found b) = refl
  naming-swapped none none = refl

  swap_step : (n : ℕ) (f g : Found) (r : Report) → before (events_at n (naming (exchanged sides) g f)) (swapped r) ≡ swapped (before (events_at n (naming sides f g)) r)
  swap_step n f g r =
      rw (naming-swapped f g)
      (ap (λ (es : List Event). record { events = es; first = r.second; second = r.first }) (sym (swap_before n (naming sides f g) r.events)))

  walk-swapped : {n : ℕ} {xs ys : List ℕ} {r : Report} → Walked sides n xs ys r → walk (exchanged sides) n ys xs ≡ swapped r
  walk-swapped (cut {n} {xs} {ys} c) = walk_cut (exchanged sides) n ys xs (or_comm (is_cut ys) (is_cut xs) ∙ c)
  walk-swapped (over {n}) = walk-empty (exchanged sides) n
  walk-swapped (on {n} {xs} {ys} {r} c some w) =
      walk_step (exchanged sides) n ys xs (or_comm (is_cut ys) (is_cut xs) ∙ c) (and_comm (empty ys) (empty xs) ∙ some)
      ∙ ap (before (events_at n (naming (exchanged sides) (front_record ys) (front_record xs)))) (walk-swapped w)
      ∙ swap_step n (front_record xs) (front_record ys) r

module _ (asked : Asked) where
  started_swapped : {first second : List ℕ} {r : Report} → Started asked first second r → report_of asked second first ≡ swapped r
  unfolding report_of
  started_swapped {first} {second} (sound s t w) = rw (s, t) (walk-swapped (sides_of asked first second) w)
  started_swapped {first} {second} (unsound u) = rw (and_comm (is_sound (start_of second)) (is_sound (start_of first)) ∙ u)

  -- Listings that change sides exchange the sides of the report.
  pub report_swapped : (first second : List ℕ) → report_of asked second first ≡ swapped (report_of asked first second)
  report_swapped first second = started_swapped (started asked first second)
