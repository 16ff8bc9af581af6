-- What the table has rows of, so that it cannot be shortened in silence.
-- Assumes nothing.
use Rattle.std.specs.Prelude.{Bool, true, false, cond, ◌&&◌, ◌||◌, List, [], ◌∷◌, ◌++◌, ℕ, zero, suc, ◌+◌, eqb, leb, length}
use Rattle.frames.specs.Numbers.{word}
use Rattle.printed.specs.Rows.{Entry, one_record, one_listing, Expected, prints, answers, Row}

-- a number is one of these
abbrev pub among : ℕ → List ℕ → Bool
among n [] = false
among n (m ∷ ms) = eqb n m || among n ms

-- how often it is
abbrev pub times : ℕ → List ℕ → ℕ
times n [] = 0
times n (m ∷ ms) = cond (eqb n m) (suc (times n ms)) (times n ms)

-- every number below this one is there twice at least
abbrev pub twice_below : ℕ → List ℕ → Bool
twice_below zero ns = true
twice_below (suc n) ns = leb 2 (times n ns) && twice_below n ns

-- the opcode of a row whose record is printed
abbrev pub opcode_of : Entry → Expected → List ℕ → List ℕ
opcode_of one_record (prints text) given = word given 0 ∷ []
opcode_of one_record (answers n) given = []
opcode_of one_listing (prints text) given = []
opcode_of one_listing (answers n) given = []

-- the opcodes that are printed in this mode, row by row
abbrev pub opcodes_in : ℕ → List Row → List ℕ
opcodes_in mode [] = []
opcodes_in mode (r ∷ rs) = cond (among mode r.modes) (opcode_of r.entry r.said r.given) [] ++ opcodes_in mode rs

-- the answer of a row whose record is refused
abbrev pub answer_of : Entry → Expected → List ℕ
answer_of one_record (prints text) = []
answer_of one_record (answers n) = n ∷ []
answer_of one_listing (prints text) = []
answer_of one_listing (answers n) = []

abbrev pub answers_in : List Row → List ℕ
answers_in [] = []
answers_in (r ∷ rs) = answer_of r.entry r.said ++ answers_in rs

-- the pairs of bytes and mode
abbrev pub pairs_in : List Row → ℕ
pairs_in [] = 0
pairs_in (r ∷ rs) = length r.modes + pairs_in rs
