-- The lines of a listing: one for each frame, and those that no record has.
-- Assumes nothing.
use Rattle.std.specs.Prelude.{cond, List, [], ◌∷◌, ◌++◌, ℕ, zero, suc, length, drop}
use Rattle.text.specs.Words.{bytes, empty}
use Rattle.answers.specs.Lines.{newline}
use Rattle.frames.specs.Frames.{is_whole, body_of, frame_size, known_version}
use Rattle.records.specs.declared.Asked.{Asked}
use Rattle.records.specs.Records.{in_version}
use Rattle.records.specs.Lines.{record_line}

-- "Missing bytes .. end it with `; cut`"; "A version byte other than 1 gives the single line `; version`", and since document 02 other than 1 and 2
abbrev pub cut_line : List ℕ
cut_line = bytes "; cut" ++ newline

abbrev pub version_line : List ℕ
version_line = bytes "; version" ++ newline

-- the line of what stands in front: of the record of a whole frame, else `; cut`
unfoldable pub front_line : Asked → List ℕ → List ℕ
front_line asked xs = cond (is_whole xs) (record_line asked (body_of xs)) cut_line

-- the lines of at most k frames, one after the other to the end
unfoldable pub lines_within : ℕ → Asked → List ℕ → List ℕ
lines_within zero asked xs = []
lines_within (suc k) asked xs = cond (empty xs) [] (front_line asked xs ++ lines_within k asked (drop (frame_size xs) xs))

-- the lines of all frames: there are no more of them than bytes
unfoldable pub lines_of : Asked → List ℕ → List ℕ
lines_of asked xs = lines_within (length xs) asked xs

-- the lines of a listing: "one version byte, 1, then records", or 2; its records are of that version; "an empty listing too" is cut
unfoldable pub listing_text : Asked → List ℕ → List ℕ
listing_text asked [] = cut_line
listing_text asked (version ∷ xs) = cond (known_version version) (lines_of (in_version version asked) xs) version_line
