-- What contracts inside the printer speak of, and no promise: a text that nothing refuses but the room.
-- Assumes nothing.
use Rattle.std.specs.Prelude.{List, [], ◌∷◌, ℕ}
use Rattle.answers.specs.Refusals.{refusal, room, answer_of}
use Rattle.answers.specs.Outcomes.{room_refused, Outcome, outcome_of}

-- a text that nothing refuses but the room: printed where it has room
unfoldable pub text_outcome : List ℕ → List ℕ → Outcome
text_outcome text buf = outcome_of (answer_of (refusal room (room_refused text buf) ∷ [])) text buf
