-- A text written into a lent buffer, at a place. Every printing function of every crate states its work by `Room` and `Put`.
-- Assumes nothing.
use Rattle.std.specs.Prelude.{List, ◌++◌, ℕ, ◌+◌, length, take, drop}

-- the buffer `xs` with the text `t` in place of what stood there from `at` on: nothing before `at`, and nothing behind the text, differs
unfoldable pub write : List ℕ → ℕ → List ℕ → List ℕ
write xs at t = take at xs ++ (t ++ drop (at + length t) xs)
