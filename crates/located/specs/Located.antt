-- The text of a whole listing with the place of each record.
-- Assumes nothing.
use Rattle.std.specs.Prelude.{ℕ, zero, suc, ◌+◌, ◌%◌, ◌^◌, cond, not, List, [], ◌∷◌, ◌++◌, length, drop}
use Rattle.text.specs.Choice.{when}
use Rattle.text.specs.Words.{empty}
use Rattle.frames.specs.Frames.{is_whole, body_of, frame_size, known_version}
use Rattle.records.specs.declared.Asked.{Asked}
use Rattle.records.specs.Records.{in_version}
use Rattle.listings.specs.Lines.{cut_line, version_line}
use Rattle.located.specs.Parts.{record_part}

-- numbers and places are of 64 bits, and begin again at 0 after the largest
abbrev pub wrapped : ℕ → ℕ
wrapped n = n % 2 ^ 64

-- the parts of at most k records from this number and this place on, one after the other; what is no whole frame is cut
unfoldable pub parts_within : ℕ → Asked → (number offset : ℕ) → List ℕ → List ℕ
parts_within zero asked number offset xs = []
parts_within (suc k) asked number offset xs =
    cond (is_whole xs)
    (record_part asked number offset (body_of xs)
    ++ parts_within k asked (wrapped (number + 1)) (wrapped (offset + frame_size xs)) (drop (frame_size xs) xs))
    (when (not (empty xs)) cut_line)

-- of all records: there are no more of them than bytes
unfoldable pub parts_of : Asked → (number offset : ℕ) → List ℕ → List ℕ
parts_of asked number offset xs = parts_within (length xs) asked number offset xs

-- of a listing: records are numbered from 0, are of its version, and the first stands after the version byte
unfoldable pub located_text : Asked → List ℕ → List ℕ
located_text asked [] = cut_line
located_text asked (version ∷ xs) = cond (known_version version) (parts_of (in_version version asked) 0 1 xs) version_line
