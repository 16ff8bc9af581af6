-- What an entry point comes to: the answer, the length and the buffer after the call.
-- Assumes nothing.
use Rattle.std.specs.Prelude.{◌≡◌, Bool, cond, ◌||◌, List, [], ◌∷◌, ◌++◌, ℕ, ltb, eqb}
use Rattle.std.proofs.Math.ListN as list
use Rattle.text.specs.Write.{write}
use Rattle.answers.specs.Refusals.{Refusal, refusal, room}
use Rattle.answers.specs.Reasons.{Answer, number_of_answer, length_of_answer}

-- "6 room: the text is longer than the buffer"
abbrev pub room_refused : List ℕ → List ℕ → Bool
room_refused text buf = ltb (list.length buf) (list.length text)

-- the refusals of an entry point's own, and last the one for room
abbrev pub with_room : List Refusal → (text buf : List ℕ) → List Refusal
with_room refusals text buf = refusals ++ (refusal room (room_refused text buf) ∷ [])

-- "0 printed: bytes written", "6 room: bytes needed", and 0 with every other answer
abbrev pub length_with : ℕ → List ℕ → ℕ
length_with answer text = cond (eqb answer 0 || eqb answer room) (list.length text) 0

-- "After 1 to 6 the buffer is as before; after 0 only the first bytes, up to the length, differ": they are the text
abbrev pub buffer_after : ℕ → List ℕ → List ℕ → List ℕ
buffer_after answer text buf = cond (eqb answer 0) (write buf 0 text) buf

pub record Outcome : Type 0 where
  pub answer : ℕ
  pub length : ℕ
  pub buffer : List ℕ

unfoldable pub outcome_of : ℕ → List ℕ → List ℕ → Outcome
outcome_of answer text buf =
    record { answer = answer; length = length_with answer text; buffer = buffer_after answer text buf }

-- the answer given, and the buffer left, are those of the outcome
pub record Gives (o : Outcome) (given : Answer) (buffer : List ℕ) : Type 0 where
  pub answer : number_of_answer given ≡ o.answer
  pub length : length_of_answer given ≡ o.length
  pub after : buffer ≡ o.buffer
