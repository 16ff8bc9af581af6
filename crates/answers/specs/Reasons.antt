-- Why there is no text, as the numbers of documents 01 and 02.
-- Assumes nothing.
use Rattle.std.specs.Prelude.{Option, Some, None, Result, Ok, Err, ℕ}
use Rattle.answers.specs.Refusals.{mode, length, field, shape, size, room, broadcast}
use Rattle.answers.specs.declared.Reason.{Reason}
use Rattle.answers.specs.declared.Reason.TheVariants.{Mode, Length, Field, Shape, Size, Broadcast}
use Rattle.answers.specs.declared.Refused.{Refused}
use Rattle.answers.specs.declared.Refused.TheVariants.{For, Room}

-- the number of a reason
abbrev pub number_of : Reason → ℕ
number_of Mode = mode
number_of Length = length
number_of Field = field
number_of Shape = shape
number_of Size = size
number_of Broadcast = broadcast

-- the same where there may be no reason: 0 is none
abbrev pub answer_as : Option Reason → ℕ
answer_as None = 0
answer_as (Some reason) = number_of reason

-- what an entry point returns
abbrev pub Answer : Type 0
Answer = Result ℕ Refused

-- "0 printed", "6 room", and the number of another refusal
abbrev pub number_of_answer : Answer → ℕ
number_of_answer (Ok written) = 0
number_of_answer (Err (For reason)) = number_of reason
number_of_answer (Err (Room needed)) = room

-- "0 printed: bytes written", "6 room: bytes needed", and 0 with every other answer
abbrev pub length_of_answer : Answer → ℕ
length_of_answer (Ok written) = written
length_of_answer (Err (For reason)) = 0
length_of_answer (Err (Room needed)) = needed
