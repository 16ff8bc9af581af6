-- The rules of document 01 on its tables, each as one test that is computed over the whole table.
-- Assumes nothing.
use Rattle.std.specs.Prelude.{Bool, true, false, not, ◌&&◌, ◌||◌, List, [], ◌∷◌, ℕ, leb, ltb, eqb, length}
use Rattle.text.specs.Words.{every, ascend, distinct, empty, starts}

-- the letters of a name: a to z, 0 to 9, and `_`
abbrev pub letter : ℕ → Bool
letter b = (leb 97 b && leb b 122) || (leb 48 b && leb b 57) || eqb b 95

-- a name has letters, all of that set, and is no longer than n
abbrev pub name_of : ℕ → List ℕ → Bool
name_of n w = not (empty w) && every letter w && leb (length w) n

-- "offsets ascend, names are non-empty and distinct"
unfoldable pub names_rule : ℕ → List (List ℕ) → Bool
names_rule n words = ascend (starts 0 words) && every (name_of n) words && distinct words

-- a register's name may be empty, where there is no register, and st(0) to st(7) have parentheses
abbrev pub register_letter : ℕ → Bool
register_letter b = letter b || eqb b 40 || eqb b 41

-- "offsets ascend", in a table in which some places stand for nothing: where a word stands, its offset is below the next one
abbrev pub ascend_at_words : List (List ℕ) → List ℕ → Bool
ascend_at_words [] offsets = true
ascend_at_words (w ∷ ws) [] = false
ascend_at_words (w ∷ ws) (a ∷ []) = false
ascend_at_words (w ∷ ws) (a ∷ b ∷ offsets) = (empty w || ltb a b) && ascend_at_words ws (b ∷ offsets)

unfoldable pub registers_rule : List (List ℕ) → Bool
registers_rule words = ascend_at_words words (starts 0 words) && every (every register_letter) words && distinct words
