-- What contracts inside the printer speak of, and no promise: room for a text, a text that was put, and a word of a table.
-- Assumes nothing.
use Rattle.std.specs.Prelude.{◌≡◌, List, ℕ, ◌+◌, ◌-◌, ◌≤◌, ◌<◌, length, get_or, take, drop}
use Rattle.text.specs.Write.{write}

-- the buffer `xs` has room for the text `t` at the place `at`
pub record Room (xs : List ℕ) (at : ℕ) (t : List ℕ) : Type 0 where
  pub fits : at + length t ≤ length xs

-- the text `t` was put at `at` into the buffer `xs`: `r` is the place after it, and `ys` the buffer since
pub record Put (xs : List ℕ) (at : ℕ) (t : List ℕ) (r : ℕ) (ys : List ℕ) : Type 0 where
  pub next : r ≡ at + length t
  pub text : ys ≡ write xs at t

-- a word stands at k: it has two offsets, in order and within the text
pub record Stands (letters offsets : List ℕ) (k : ℕ) : Type 0 where
  pub there : k + 1 < length offsets
  pub ordered : get_or offsets k 0 ≤ get_or offsets (k + 1) 0
  pub within : get_or offsets (k + 1) 0 ≤ length letters

-- the part of a text from one offset up to another
unfoldable pub part : List ℕ → ℕ → ℕ → List ℕ
part text from to = take (to - from) (drop from text)

-- the word at k of a table that is held so
unfoldable pub word_at : List ℕ → List ℕ → ℕ → List ℕ
word_at letters offsets k = part letters (get_or offsets k 0) (get_or offsets (k + 1) 0)
