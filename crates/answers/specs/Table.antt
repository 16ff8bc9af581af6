-- Document 01's answer table as a relation, of every entry point alike: which answer, length and buffer an input may come to. It
-- names no outcome function; that one thing meets it, and nothing else, is proved over any list of refusals.
-- Assumes nothing.
use Rattle.std.specs.Prelude.{◌≡◌, List, ◌↔◌, ℕ, ◌<◌, length, take, drop}
use Rattle.answers.specs.Refusals.{Refusal, room, First, None}

-- An answer, a length n and the buffer after the call, of an entry point that has these refusals and this text to print, and that was
-- lent a buffer with these bytes before the call.
pub record Answered (refusals : List Refusal) (text before : List ℕ) (answer n : ℕ) (after : List ℕ) : Type 0 where
  -- "answer | exactly when": a refusal's number, exactly when it is the first that applies
  pub refused : (k : ℕ) → 0 < k → (answer ≡ k) ↔ First refusals k
  -- "0 | printed": exactly when no refusal applies
  pub printed : (answer ≡ 0) ↔ None refusals
  -- "0 .. | bytes written": those of the text
  pub written : answer ≡ 0 → n ≡ length text
  -- "6 .. | bytes needed": those of the text
  pub needed : answer ≡ room → n ≡ length text
  -- every other answer: length 0
  pub no_length : (answer ≡ 0 → ⊥) → (answer ≡ room → ⊥) → n ≡ 0
  -- the buffer is lent: it keeps its size
  pub same_size : length after ≡ length before
  -- "After 1 to 6 the buffer is as before"
  pub as_before : 0 < answer → after ≡ before
  -- "after 0 only the first bytes, up to the length, differ": the bytes after them are as before
  pub behind : answer ≡ 0 → drop n after ≡ drop n before
  -- the first bytes are the text
  pub front : answer ≡ 0 → take n after ≡ text
