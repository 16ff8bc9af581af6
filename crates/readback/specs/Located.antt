-- The instructions of a text: what MASM reads in its lines, without those that hold none.
-- Assumes nothing.
use Rattle.std.specs.Prelude.{List, [], ◌∷◌, map, ℕ, ◌≤◌, length}
use Rattle.masm.specs.Lines.{Reading, shows, no_instruction, refused, read}
use Rattle.readback.specs.Listings.{lines_in}

abbrev pub instructions : List Reading → List Reading
instructions [] = []
instructions (shows l ∷ rs) = shows l ∷ instructions rs
instructions (no_instruction ∷ rs) = instructions rs
instructions (refused ∷ rs) = refused ∷ instructions rs

abbrev pub instructions_in : (start : ℕ) → List ℕ → List Reading
instructions_in start text = instructions (map (read start) (lines_in text))

-- no line of a text has more letters than MASM takes
abbrev pub line_limit : ℕ
line_limit = 512

abbrev pub Short : List (List ℕ) → Type 0
Short [] = Unit {0}
Short (l ∷ ls) = (length l ≤ line_limit) × Short ls
