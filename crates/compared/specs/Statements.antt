-- What the theorems on a report speak of.
-- Assumes nothing.
use Rattle.std.specs.Prelude.{◌≡◌, true, false, ◌⊎◌, ℕ, ◌≤◌, ◌<◌}
use mathlib.Core.List.{List, [], ◌∷◌, map, Memᴰ as Among}
use Rattle.compared.specs.declared.Side.TheVariants.{Sound, Cut}
use Rattle.compared.specs.Places.{start_of, record_at, cut_at}
use Rattle.compared.specs.Events.{Kind, Event}
use Rattle.compared.specs.Events.Kind.{differ, same_line, only_first, only_second}
use Rattle.compared.specs.Report.{Report}

-- a place that the walk comes to: both version bytes are known, and "no side is cut at or before place k"
pub record Reached (first second : List ℕ) (k : ℕ) : Type 0 where
  pub first_sound : start_of first ≡ Sound
  pub second_sound : start_of second ≡ Sound
  pub first_uncut : (j : ℕ) → j ≤ k → cut_at first j ≡ false
  pub second_uncut : (j : ℕ) → j ≤ k → cut_at second j ≡ false

-- "The numbers named ascend strictly": each is below those of all after it
abbrev pub Ascends : List Event → Type 0
Ascends [] = Unit
Ascends (e ∷ es) = ((later : Event) → Among later es → e.number < later.number) × Ascends es

-- a side is cut, and no later than the other: at a place before which the other is not
pub record CutNoLater (side other : List ℕ) : Type 0 where
  pub place : ℕ
  pub there : cut_at side place ≡ true
  pub other_uncut : (j : ℕ) → j < place → cut_at other j ≡ false

-- "; cut" is to be said of a side: it has no byte, or both version bytes are known and it is cut no later than the other
abbrev pub SaidCut : (side other : List ℕ) → Type 0
SaidCut side other = (start_of side ≡ Cut) ⊎ ((start_of side ≡ Sound) × (start_of other ≡ Sound) × CutNoLater side other)

-- two listings of the same records
--   sound:    both version bytes are known
--   uncut:    neither is cut at any place
--   records:  at each place both have the same record, or neither has one
pub record SameRecords (first second : List ℕ) : Type 0 where
  pub sound : (start_of first ≡ Sound) × (start_of second ≡ Sound)
  pub uncut : (k : ℕ) → (cut_at first k ≡ false) × (cut_at second k ≡ false)
  pub records : (k : ℕ) → record_at first k ≡ record_at second k

-- "swapped sides swap the report": a kind, an event and a report with their sides exchanged
abbrev pub swap_kind : Kind → Kind
swap_kind (differ a b) = differ b a
swap_kind (same_line a) = same_line a
swap_kind (only_first a) = only_second a
swap_kind (only_second b) = only_first b

abbrev pub swap_event : Event → Event
swap_event e = record { number = e.number; kind = swap_kind e.kind }

abbrev pub swapped : Report → Report
swapped r = record { events = map swap_event r.events; first = r.second; second = r.first }
