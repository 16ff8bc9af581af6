-- Document 02, W-205: "The record gets a four-byte start address after the instruction length, the version byte becomes 2 .. Version 1 is
-- still read, with start address 0". Every other definition speaks of the fields, which both versions have.
-- Assumes nothing.
use Rattle.std.specs.Prelude.{cond, List, ◌++◌, ℕ, eqb, take, drop}
use Rattle.frames.specs.Numbers.{dword}
use Rattle.operands.specs.declared.Instruction.{Instruction}
use Rattle.operands.specs.Parts.{starting_at}
use Rattle.bodies.specs.Decoding.{instruction_of}

-- the fields of a body: in version 2 the body without the four bytes of the address
unfoldable pub fields : (version : ℕ) → List ℕ → List ℕ
fields version body = cond (eqb version 2) (take 4 body ++ drop 8 body) body

-- its start address: "All numbers are big-endian"
unfoldable pub start_of : (version : ℕ) → List ℕ → ℕ
start_of version body = cond (eqb version 2) (dword body 4) 0

-- the record of a body: that of its fields, at its start address
abbrev pub record_of : (version : ℕ) → List ℕ → Instruction
record_of version body = starting_at (start_of version body) (instruction_of (fields version body))
