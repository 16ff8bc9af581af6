-- What contracts inside the printer speak of, and no promise: a body whose length is right.
-- Assumes nothing.
use Rattle.std.specs.Prelude.{cond, ◌≡◌, List, ◌∷◌, ℕ, suc, ◌+◌, ◌*◌, ◌^◌, ◌≤◌, ◌<◌, eqb, length}
use Rattle.operands.specs.declared.Instruction.{Instruction}
use Rattle.operands.specs.Parts.{starting_at}
use Rattle.bodies.specs.Decoding.{instruction_of}
use Rattle.frames.specs.Numbers.{byte}
use Rattle.bodies.specs.declared.Front.{Front}
use Rattle.bodies.specs.Versions.{start_of}
use Rattle.bodies.specs.Refusals.{length_refused, field_refused}
use Rattle.bodies.specs.Body.{count_of, place_of, is_extended, end_of}

-- what a length that is not refused says: the fixed fields are there, and so are the stored operands' bytes, and the two after them
-- of an extended record, and no more
pub record Whole (body : List ℕ) : Type 0 where
  pub fixed : 14 ≤ length body
  pub stored : length body ≡ end_of body + cond (is_extended body) 2 0

-- a body of document 01's own length, which says nothing of masks
pub record OldWhole (body : List ℕ) : Type 0 where
  pub fixed : 14 ≤ length body
  pub stored : length body ≡ 14 + 5 * count_of body

-- the first of answers 2 and 3 that applies, and 0 where neither does
abbrev pub body_answer : List ℕ → ℕ
body_answer body = cond (length_refused body) 2 (cond (field_refused body) 3 0)

-- where the rest of a body begins: after the four bytes that both versions have in front, and in version 2 after the address
abbrev pub rest_at : (version : ℕ) → ℕ
rest_at version = cond (eqb version 2) 8 4

-- the front of a body
abbrev pub front_of : (version : ℕ) → List ℕ → Front
front_of version body =
    record { high = byte body 0; low = byte body 1; flags = byte body 2; length = byte body 3; start = start_of version body }

-- the fields that a front and a rest are together
abbrev pub fields_by : Front → List ℕ → List ℕ
fields_by front rest = front.high ∷ front.low ∷ front.flags ∷ front.length ∷ rest

-- a place of the rest as a place of the fields
abbrev pub in_fields : ℕ → ℕ
in_fields at = suc (suc (suc (suc at)))

-- their opcode
abbrev pub opcode_in : Front → ℕ
opcode_in front = front.high * 2 ^ 8 + front.low

-- their record
abbrev pub instruction_by : Front → List ℕ → Instruction
instruction_by front rest = starting_at front.start (instruction_of (fields_by front rest))

-- operand k is stored at a place of the rest, and its five bytes are there
pub record StandsAt (body : List ℕ) (k at : ℕ) : Type 0 where
  pub stored : k < count_of body
  pub place : in_fields at ≡ place_of body k
  pub within : in_fields at + 5 ≤ length body
