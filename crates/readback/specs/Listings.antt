-- What the lines of a listing show, frame by frame, and a text cut at its newlines.
-- Assumes nothing.
use Rattle.std.specs.Prelude.{cond, List, [], ◌∷◌, map, ◌≡◌, ℕ, zero, suc, eqb, length, drop}
use Rattle.std.proofs.Math.Option.{Option, none, some}
use Rattle.text.specs.Words.{empty}
use Rattle.lines.specs.declared.Line.{Line}
use Rattle.answers.specs.Refusals.{answer_of}
use Rattle.frames.specs.Frames.{is_whole, body_of, frame_size, known_version}
use Rattle.records.specs.Records.{refusals, line_at, in_version}
use Rattle.records.specs.declared.Asked.{Asked}
use Rattle.masm.specs.Lines.{Reading, shows, no_instruction, read}
use Rattle.readback.specs.Meaning.{meaning}

-- ---- Lines of a text

abbrev pub on_first : ℕ → List (List ℕ) → List (List ℕ)
on_first c [] = (c ∷ []) ∷ []
on_first c (l ∷ ls) = (c ∷ l) ∷ ls

-- A newline ends a line. What stands after the last newline is a line too, if it is not empty.
abbrev pub lines_in : List ℕ → List (List ℕ)
lines_in [] = []
lines_in (c ∷ t) = cond (eqb c 10) ([] ∷ lines_in t) (on_first c (lines_in t))

-- ---- What each line shows: a record's line, or nothing, where it is a comment

-- a record that none of answers 1 to 5 refuses shows its line; of any other, `; refused N` shows nothing
abbrev pub record_shows : (asked : Asked) (body : List ℕ) → Option Line
record_shows asked body = cond (eqb (answer_of (refusals asked body)) 0) (some (line_at asked body)) none

-- what stands in front: a whole frame's record; `; cut` shows nothing
abbrev pub front_shows : (asked : Asked) (xs : List ℕ) → Option Line
front_shows asked xs = cond (is_whole xs) (record_shows asked (body_of xs)) none

-- at most k frames, one after the other to the end
abbrev pub shows_within : (k : ℕ) (asked : Asked) (xs : List ℕ) → List (Option Line)
shows_within zero asked xs = []
shows_within (suc k) asked xs = cond (empty xs) [] (front_shows asked xs ∷ shows_within k asked (drop (frame_size xs) xs))

-- a listing: one entry for each frame, whose record is of the listing's version; `; cut` of an empty listing, and `; version`, show
-- nothing
abbrev pub listing_shows : (asked : Asked) (listing : List ℕ) → List (Option Line)
listing_shows asked [] = none ∷ []
listing_shows asked (version ∷ xs) = cond (known_version version) (shows_within (length xs) (in_version version asked) xs) (none ∷ [])

-- how a line is read that shows this
abbrev pub reading_of : (start : ℕ) → Option Line → Reading
reading_of start none = no_instruction
reading_of start (some l) = shows (meaning start l)

-- a text, cut at its newlines, reads line by line as what is shown
abbrev pub ReadsAs : (start : ℕ) (text : List ℕ) (shown : List (Option Line)) → Type 0
ReadsAs start text shown = map (read start) (lines_in text) ≡ map (reading_of start) shown
