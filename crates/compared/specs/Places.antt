-- "Record k of a listing": what stands at each place of it.
-- Assumes nothing.
use Rattle.std.specs.Prelude.{Bool, cond, not, ◌&&◌, List, [], ◌∷◌, ℕ, zero, suc, drop}
use Rattle.text.specs.Words.{empty}
use Rattle.frames.specs.Numbers.{byte}
use Rattle.frames.specs.Frames.{is_whole, body_of, frame_size, known_version}
use Rattle.compared.specs.declared.Side.{Side}
use Rattle.compared.specs.declared.Side.TheVariants.{Sound, Cut, Version}

-- a record, by its body, or none
pub data Found : Type 0 where
  found : List ℕ → Found
  none : Found

-- what stands before record 0: "no byte is `; cut`, an unknown one `; version`"
abbrev pub start_of : List ℕ → Side
start_of [] = Cut
start_of (version ∷ xs) = cond (known_version version) Sound Version

-- a listing's version byte
abbrev pub version_of : List ℕ → ℕ
version_of listing = byte listing 0

-- what is left of frames after k of them; after one that is cut nothing is left
unfoldable pub after : ℕ → List ℕ → List ℕ
after zero xs = xs
after (suc k) xs = after k (drop (frame_size xs) xs)

-- the record in front: the body of a whole frame, "refused or not"
abbrev pub front_record : List ℕ → Found
front_record xs = cond (is_whole xs) (found (body_of xs)) none

-- bytes are left, and too few for a frame
abbrev pub is_cut : List ℕ → Bool
is_cut xs = not (empty xs) && not (is_whole xs)

-- record k of a listing, "the body of its k-th whole frame", from 0 up; and whether the listing is cut at that place
abbrev pub record_at : List ℕ → ℕ → Found
record_at listing k = front_record (after k (drop 1 listing))

abbrev pub cut_at : List ℕ → ℕ → Bool
cut_at listing k = is_cut (after k (drop 1 listing))
