-- What is reported of two listings: the records that are named, and what is said of each side.
-- Assumes nothing.
use Rattle.std.specs.Prelude.{Bool, true, false, cond, not, ◌&&◌, ◌||◌, List, [], ◌++◌, ℕ, zero, suc, ◌+◌, ltb, length, drop}
use Rattle.text.specs.Words.{empty}
use Rattle.frames.specs.Frames.{frame_size}
use Rattle.records.specs.declared.Asked.{Asked}
use Rattle.records.specs.Records.{in_version}
use Rattle.compared.specs.declared.Side.{Side}
use Rattle.compared.specs.declared.Side.TheVariants.{Sound, Cut, Version}
use Rattle.compared.specs.declared.AskedSides.{AskedSides}
use Rattle.compared.specs.Places.{start_of, version_of, front_record, is_cut}
use Rattle.compared.specs.Events.{naming, Event, events_at}

pub record Report : Type 0 where
  pub events : List Event
  pub first : Side
  pub second : Side

-- nothing more is named
abbrev pub ends : (first second : Side) → Report
ends first second = record { events = []; first = first; second = second }

-- these are named before the others
abbrev pub before : List Event → Report → Report
before es r = record { events = es ++ r.events; first = r.first; second = r.second }

-- what is said of a side at a place
abbrev pub side_at : List ℕ → Side
side_at xs = cond (is_cut xs) Cut Sound

-- Of at most f places from this number on, one after the other on both sides: "At each place the sides that are cut are reported
-- first .. and the run ends"; where no bytes are left on either side it has come to its end.
unfoldable pub walk_within : ℕ → AskedSides → (number : ℕ) → (first second : List ℕ) → Report
walk_within zero sides number xs ys = ends Sound Sound
walk_within (suc f) sides number xs ys =
    cond (is_cut xs || is_cut ys) (ends (side_at xs) (side_at ys))
    (cond (empty xs && empty ys) (ends Sound Sound)
    (before (events_at number (naming sides (front_record xs) (front_record ys)))
    (walk_within f sides (suc number) (drop (frame_size xs) xs) (drop (frame_size ys) ys))))

-- of all places: there are no more of them than bytes
unfoldable pub walk : AskedSides → (number : ℕ) → (first second : List ℕ) → Report
walk sides number xs ys = walk_within (length xs + length ys) sides number xs ys

abbrev pub is_sound : Side → Bool
is_sound Sound = true
is_sound Cut = false
is_sound Version = false

-- the same asked of both sides, each of records of its own version
abbrev pub in_versions : (first second : ℕ) → Asked → AskedSides
in_versions first second asked = record { first = in_version first asked; second = in_version second asked }

-- a listing says its version itself, so each side's lines are by its own
abbrev pub sides_of : Asked → (first second : List ℕ) → AskedSides
sides_of asked first second = in_versions (version_of first) (version_of second) asked

-- of two listings: "Before record 0 stand the version bytes .. both sides are reported, then the run ends."
unfoldable pub report_of : Asked → (first second : List ℕ) → Report
report_of asked first second =
    cond (is_sound (start_of first) && is_sound (start_of second)) (walk (sides_of asked first second) 0 (drop 1 first) (drop 1 second)) (ends (start_of first) (start_of second))

-- so many records are named, or a side is not sound: the listings are not the same
abbrev pub not_same : (named : ℕ) → (first second : Side) → Bool
not_same named first second = ltb 0 named || (not (is_sound first) || not (is_sound second))

-- from where so many records are named already
unfoldable pub is_different : (named : ℕ) → Report → Bool
is_different named r = not_same (named + length r.events) r.first r.second
