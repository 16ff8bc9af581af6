-- What contracts inside the printer speak of, and no promise: the frame at a place, as the code finds it.
-- Assumes nothing.
use Rattle.std.specs.Prelude.{cond, Option, Some, None, List, ℕ, ◌+◌, drop}
use Rattle.frames.specs.declared.Frame.{Frame}
use Rattle.frames.specs.Frames.{is_whole, body_length}

-- a frame whose body has these places
abbrev pub frame : (start end : ℕ) → Frame
frame start end = record { start = start; end = end }

-- the frame at a place of a listing, by the places of its body; none where there are too few bytes for one
abbrev pub frame_at : List ℕ → ℕ → Option Frame
frame_at listing at = cond (is_whole (drop at listing)) (Some (frame (at + 2) (at + 2 + body_length (drop at listing)))) None
