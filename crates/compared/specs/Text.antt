-- The report, to the byte.
--   record 17 differs
--     first:  jmp $+80h
--     second: jmp $-80h
--   record 18 differs, same line
--     both:   push 5
--   record 40 only in the first
--     first:  nop
--   second: ; cut
--   differing records: 3
-- Assumes nothing.
use Rattle.std.specs.Prelude.{List, [], ◌∷◌, ◌++◌, ℕ, ◌+◌, ◌-◌, ◌^◌, min, length}
use Rattle.text.specs.Words.{bytes}
use Rattle.numerals.specs.Decimals.{decimal}
use Rattle.answers.specs.Lines.{newline}
use Rattle.listings.specs.Lines.{cut_line, version_line}
use Rattle.records.specs.declared.Asked.{Asked}
use Rattle.compared.specs.declared.Side.{Side}
use Rattle.compared.specs.declared.Side.TheVariants.{Sound, Cut, Version}
use Rattle.compared.specs.Events.{Kind, Event}
use Rattle.compared.specs.Events.Kind.{differ, same_line, only_first, only_second}
use Rattle.compared.specs.Report.{Report, report_of}

-- numbers are of 64 bits: for a larger one stands the largest
abbrev pub capped : ℕ → ℕ
capped n = min n (2 ^ 64 - 1)

-- a record's line ends in its newline
unfoldable pub kind_text : Kind → List ℕ
kind_text (differ a b) = bytes " differs" ++ (newline ++ (bytes "  first:  " ++ (a ++ (bytes "  second: " ++ b))))
kind_text (same_line a) = bytes " differs, same line" ++ (newline ++ (bytes "  both:   " ++ a))
kind_text (only_first a) = bytes " only in the first" ++ (newline ++ (bytes "  first:  " ++ a))
kind_text (only_second b) = bytes " only in the second" ++ (newline ++ (bytes "  second: " ++ b))

unfoldable pub event_text : Event → List ℕ
event_text e = bytes "record " ++ (decimal (capped e.number) ++ kind_text e.kind)

unfoldable pub events_text : List Event → List ℕ
events_text [] = []
events_text (e ∷ es) = event_text e ++ events_text es

-- what is said of a side, after a word that names it
unfoldable pub side_text : List ℕ → Side → List ℕ
side_text name Sound = []
side_text name Cut = name ++ cut_line
side_text name Version = name ++ version_line

-- "The last line counts the records named and is always there, also with 0."
unfoldable pub count_line : ℕ → List ℕ
count_line n = bytes "differing records: " ++ (decimal (capped n) ++ newline)

-- "the first side before the second"
unfoldable pub end_text : (first second : Side) → (named : ℕ) → List ℕ
end_text first second named = side_text (bytes "first: ") first ++ (side_text (bytes "second: ") second ++ count_line named)

-- what is said from where so many records are named already
unfoldable pub report_text : (named : ℕ) → Report → List ℕ
report_text named r = events_text r.events ++ end_text r.first r.second (named + length r.events)

-- of two listings
unfoldable pub comparison : Asked → (first second : List ℕ) → List ℕ
comparison asked first second = report_text 0 (report_of asked first second)

-- at one place no more is said
abbrev pub longest_event : ℕ
longest_event = 704
