-- Whether a record is named, and how.
-- Assumes nothing.
use Rattle.std.specs.Prelude.{cond, List, [], ◌∷◌, ℕ}
use Rattle.text.specs.Words.{same}
use Rattle.records.specs.Lines.{record_line}
use Rattle.compared.specs.declared.AskedSides.{AskedSides}
use Rattle.compared.specs.Places.{Found}
use Rattle.compared.specs.Places.Found.{found, none}

-- how two records differ, with the lines that are shown
--   differ:      record 17 differs             both lines
--   same_line:    record 18 differs, same line  the line of both
--   only_first:   record 40 only in the first   its line
--   only_second:  record 40 only in the second  its line
pub data Kind : Type 0 where
  differ : (first second : List ℕ) → Kind
  same_line : (both : List ℕ) → Kind
  only_first : (first : List ℕ) → Kind
  only_second : (second : List ℕ) → Kind

pub data Naming : Type 0 where
  unnamed : Naming
  named : Kind → Naming

-- "where the lines agree it says "same line""
abbrev pub kind_of : (first second : List ℕ) → Kind
kind_of first second = cond (same first second) (same_line first) (differ first second)

-- "Two records are the same when their bodies are; lines decide nothing there." So it is between two versions as well. A line that is
-- shown is by what is asked of its own side.
abbrev pub naming : AskedSides → (first second : Found) → Naming
naming sides (found a) (found b) =
    cond (same a b) unnamed (named (kind_of (record_line sides.first a) (record_line sides.second b)))
naming sides (found a) none = named (only_first (record_line sides.first a))
naming sides none (found b) = named (only_second (record_line sides.second b))
naming sides none none = unnamed

-- a record that is named, by its number
pub record Event : Type 0 where
  pub number : ℕ
  pub kind : Kind

abbrev pub events_at : ℕ → Naming → List Event
events_at number unnamed = []
events_at number (named kind) = record { number = number; kind = kind } ∷ []
