-- Quoted words as bytes, and a table of words held as one text with an offset for each word.
-- Assumes nothing.
use Rattle.std.specs.Prelude.{List, [], ◌∷◌, ◌++◌, Bool, true, false, not, ◌&&◌, ◌||◌, ℕ, ◌+◌, eqb, ltb, length}
use Prim.Native.String.{String, [] as ▪, ◌∷◌ as ◌▸◌}
use Prim.Native.Char.{code}

-- the bytes of a quoted word
abbrev pub bytes : String → List ℕ
bytes ▪ = []
bytes (c ▸ s) = code c ∷ bytes s

-- a table's words, one after the other: its one text
abbrev pub join : List (List ℕ) → List ℕ
join [] = []
join (w ∷ ws) = w ++ join ws

-- where each word starts in that text, counted from `from`, and where the last one ends: one offset more than there are words
abbrev pub starts : ℕ → List (List ℕ) → List ℕ
starts from [] = from ∷ []
starts from (w ∷ ws) = from ∷ starts (from + length w) ws

-- The tests of a table, each computed once over the whole table.

-- every entry passes the test
abbrev pub every : {A : Type 0} → (A → Bool) → List A → Bool
every f [] = true
every f (x ∷ xs) = f x && every f xs

-- each offset is below the next
abbrev pub ascend : List ℕ → Bool
ascend [] = true
ascend (a ∷ []) = true
ascend (a ∷ b ∷ xs) = ltb a b && ascend (b ∷ xs)

-- two words are the same
abbrev pub same : List ℕ → List ℕ → Bool
same [] [] = true
same [] (b ∷ v) = false
same (a ∷ u) [] = false
same (a ∷ u) (b ∷ v) = eqb a b && same u v

-- the word is one of these
abbrev pub among : List ℕ → List (List ℕ) → Bool
among w [] = false
among w (v ∷ ws) = same w v || among w ws

-- a word that has no letters: a place of the table that stands for nothing
abbrev pub empty : List ℕ → Bool
empty [] = true
empty (a ∷ w) = false

-- no word stands twice
abbrev pub distinct : List (List ℕ) → Bool
distinct [] = true
distinct (w ∷ ws) = (empty w || not (among w ws)) && distinct ws
