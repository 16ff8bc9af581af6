-- "records: a two-byte length, then that many body bytes. All numbers are big-endian."
-- Assumes nothing.
use Rattle.std.specs.Prelude.{Bool, ◌&&◌, ◌||◌, cond, List, ℕ, ◌+◌, eqb, leb, length, take, drop}
use Rattle.frames.specs.Numbers.{word}

-- the length that stands in front
abbrev pub body_length : List ℕ → ℕ
body_length xs = word xs 0

-- all bytes of the frame in front are there
abbrev pub is_whole : List ℕ → Bool
is_whole xs = leb 2 (length xs) && leb (2 + body_length xs) (length xs)

-- its body
abbrev pub body_of : List ℕ → List ℕ
body_of xs = take (body_length xs) (drop 2 xs)

-- how many bytes belong to what stands in front: the whole frame, or all that is left of one that is cut
abbrev pub frame_size : List ℕ → ℕ
frame_size xs = cond (is_whole xs) (2 + body_length xs) (length xs)

-- "one version byte, 1, then records"; document 02, W-205: "the version byte becomes 2 .. Version 1 is still read"
abbrev pub known_version : ℕ → Bool
known_version version = eqb version 1 || eqb version 2
