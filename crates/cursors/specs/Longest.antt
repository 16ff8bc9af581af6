-- How long a frame can be: its length is a number of two bytes, and stands in two more.
-- Assumes nothing.
use Rattle.std.specs.Prelude.{ℕ}

-- the bytes of the longest frame
abbrev pub longest_frame : ℕ
longest_frame = 65_537
