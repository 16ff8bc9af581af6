-- "The C host sees one 64-bit number, the answer times 2^32 plus the length."
-- Assumes nothing.
use Rattle.std.specs.Prelude.{◌≡◌, List, ℕ, ◌+◌, ◌*◌, ◌^◌}
use Rattle.answers.specs.Outcomes.{Outcome}
use Rattle.records.specs.declared.Asked.{Asked}

-- what a C program asks for by plain numbers
abbrev pub asked : (version mode : ℕ) → Asked
asked version mode = record { mode = mode; version = version }

abbrev pub packed : Outcome → ℕ
packed o = o.answer * 2 ^ 32 + o.length

-- the number returned, and the buffer left, are those of the outcome
pub record Returns (o : Outcome) (number : ℕ) (buffer : List ℕ) : Type 0 where
  pub number_is : number ≡ packed o
  pub buffer_is : buffer ≡ o.buffer
