-- Which records are named: exactly those that differ at places that are reached, each once, in order, and of the right kind.
-- Assumes nothing.
use mathlib.Core.Path.{◌≡◌, refl}
use mathlib.Core.Logic.{◌↔◌}
use mathlib.Core.List.{List, ◌++◌, Memᴰ as Among}
use Prim.Native.Nat.{ℕ, ◌<◌}
use native.Mathlib.Omega.{arith}
use lib.ListN.{drop}
use Rattle.records.specs.declared.Asked.{Asked}
use Rattle.records.specs.Records.{in_version}
use Rattle.records.specs.Lines.{record_line}
use Rattle.compared.specs.declared.AskedSides.{AskedSides}
use Rattle.compared.specs.Places.{Found, version_of, front_record, record_at, cut_at}
use Rattle.compared.specs.Places.Found.{found, none}
use Rattle.compared.specs.Events.{Kind, Naming, naming, Event, events_at}
use Rattle.compared.specs.Events.Kind.{differ, same_line, only_first, only_second}
use Rattle.compared.specs.Events.Naming.{unnamed, named}
use Rattle.compared.specs.Report.{Report, sides_of, report_of}
use Rattle.compared.specs.Statements.{Reached, Ascends}
use Rattle.compared.proofs.Walks.{Walked, Started, started}
use Rattle.compared.proofs.Walks.Walked.{cut, over, on}
use Rattle.compared.proofs.Walks.Started.{sound, unsound}
use Rattle.compared.proofs.WalkEvents.{neither, Uncut, event_at, at_event}
use Rattle.compared.proofs.Namings.{Says, unnamed_exactly, naming_exactly}

ascends_before : {n : ℕ} (what : Naming) {es : List Event} → ((e : Event) → Among e es → n < e.number) → Ascends es → Ascends (events_at n what ++ es)
ascends_before unnamed h a = a
ascends_before (named kind) h a = (h, a)

walk_ascends : {sides : AskedSides} {n : ℕ} {xs ys : List ℕ} {r : Report} → Walked sides n xs ys r → Ascends r.events
walk_ascends (cut c) = tt
walk_ascends over = tt
walk_ascends {sides = sides} (on {xs = xs} {ys = ys} c some w) =
    ascends_before (naming sides (front_record xs) (front_record ys)) (λ e m. omega (arith, (event_at w m).number)) (walk_ascends w)

module _ {asked : Asked} {first second : List ℕ} where
  named_at : {r : Report} {e : Event} → Started asked first second r → Among e r.events → (Reached first second e.number) × (naming (sides_of asked first second) (record_at first e.number) (record_at second e.number) ≡ named e.kind)
  named_at (unsound u) m = absurd (elim m [ ])
  named_at {e = e} (sound s t w) m =
      let a = event_at w m in
      let place : a.place ≡ e.number = omega (arith, a.number) in
      let uncut : Uncut (drop 1 first) (drop 1 second) e.number = rw place at a.uncut in (
        record {
          first_sound = s;
          second_sound = t;
          first_uncut = λ j h. (neither (cut_at first j) (cut_at second j) (uncut j h)).0;
          second_uncut = λ j h. (neither (cut_at first j) (cut_at second j) (uncut j h)).1;
        },
        rw place at a.differs,
      )

  at_named : {r : Report} {k : ℕ} {kind : Kind} → Started asked first second r → Reached first second k → naming (sides_of asked first second) (record_at first k) (record_at second k) ≡ named kind → Among (record { number = k; kind = kind }) r.events
  at_named (unsound u) reached d =
      absurd (let s = reached.first_sound in let t = reached.second_sound in let z : ◌≡◌ {A = ℕ} 0 1 = cc in omega (arith, z))
  at_named {k = k} (sound s t w) reached d =
      at_event w k k (omega arith) (λ j h. rw (reached.first_uncut j h) (reached.second_uncut j h)) d

  report_ascends : {r : Report} → Started asked first second r → Ascends r.events
  report_ascends (unsound u) = tt
  report_ascends (sound s t w) = walk_ascends w

module _ (asked : Asked) (first second : List ℕ) where
  -- An event is among those reported exactly if its place is reached, and what stands there on both sides is named so: none is missed.
  pub events_exactly : (k : ℕ) (kind : Kind) → Among (record { number = k; kind = kind }) (report_of asked first second).events ↔ (Reached first second k × (naming (sides_of asked first second) (record_at first k) (record_at second k) ≡ named kind))
  events_exactly k kind = (named_at (started asked first second), λ n. at_named (started asked first second) n.0 n.1)

  -- A place is named exactly if it is reached, and the records there are not the same.
  pub named_exactly : (k : ℕ) → ((kind : Kind) × Among (record { number = k; kind = kind }) (report_of asked first second).events) ↔ (Reached first second k × (record_at first k ≡ record_at second k → ⊥))
  named_exactly k = (there, λ n. back n.0 n.1 (naming (sides_of asked first second) f g) refl)
    where
      f : Found
      f = record_at first k

      g : Found
      g = record_at second k

      there : ((kind : Kind) × Among (record { number = k; kind = kind }) (report_of asked first second).events) → Reached first second k × (f ≡ g → ⊥)
      there n =
          let both = (events_exactly k n.0).0 n.1 in
          (both.0, λ same. let a = both.1 in let b = (unnamed_exactly (sides_of asked first second) f g).1 same in let z : ◌≡◌ {A = ℕ} 0 1 = cc in omega (arith, z))

      back : Reached first second k → (f ≡ g → ⊥) → (what : Naming) → naming (sides_of asked first second) f g ≡ what → (kind : Kind) × Among (record { number = k; kind = kind }) (report_of asked first second).events
      back reached other unnamed e = absurd (other ((unnamed_exactly (sides_of asked first second) f g).0 e))
      back reached other (named kind) e = (kind, (events_exactly k kind).1 (reached, e))

  -- The kind is right: an event is among those reported exactly if its place is reached, and what its kind says holds of the records there.
  pub kinds_exactly : (k : ℕ) (kind : Kind) → Among (record { number = k; kind = kind }) (report_of asked first second).events ↔ (Reached first second k × Says (sides_of asked first second) (record_at first k) (record_at second k) kind)
  kinds_exactly k kind =
      let names = naming_exactly (sides_of asked first second) (record_at first k) (record_at second k) kind in (
        λ m. let n = (events_exactly k kind).0 m in (n.0, names.0 n.1),
        λ n. (events_exactly k kind).1 (n.0, names.1 n.1),
      )

  -- an event of each kind, exactly
  pub only_first_exactly : (k : ℕ) (l : List ℕ) → Among (record { number = k; kind = only_first l }) (report_of asked first second).events ↔ (Reached first second k × ((a : List ℕ) × (record_at first k ≡ found a) × (record_at second k ≡ none) × (l ≡ record_line (in_version (version_of first) asked) a)))
  only_first_exactly k l = kinds_exactly k (only_first l)

  pub only_second_exactly : (k : ℕ) (l : List ℕ) → Among (record { number = k; kind = only_second l }) (report_of asked first second).events ↔ (Reached first second k × ((b : List ℕ) × (record_at first k ≡ none) × (record_at second k ≡ found b) × (l ≡ record_line (in_version (version_of second) asked) b)))
  only_second_exactly k l = kinds_exactly k (only_second l)

  pub same-line_exactly : (k : ℕ) (l : List ℕ) → Among (record { number = k; kind = same_line l }) (report_of asked first second).events ↔ (Reached first second k × ((a : List ℕ) × (b : List ℕ) × (record_at first k ≡ found a) × (record_at second k ≡ found b) × (a ≡ b → ⊥) × (record_line (in_version (version_of first) asked) a ≡ l) × (record_line (in_version (version_of second) asked) b ≡ l)))
  same-line_exactly k l = kinds_exactly k (same_line l)

  pub differ_exactly : (k : ℕ) (l m : List ℕ) → Among (record { number = k; kind = differ l m }) (report_of asked first second).events ↔ (Reached first second k × ((a : List ℕ) × (b : List ℕ) × (record_at first k ≡ found a) × (record_at second k ≡ found b) × (a ≡ b → ⊥) × (record_line (in_version (version_of first) asked) a ≡ l) × (record_line (in_version (version_of second) asked) b ≡ m) × (l ≡ m → ⊥)))
  differ_exactly k l m = kinds_exactly k (differ l m)

  -- The numbers ascend: none is named twice.
  pub numbers_ascend : Ascends (report_of asked first second).events
  numbers_ascend = report_ascends (started asked first second)
