-- Which bodies are printed.
-- Assumes nothing.
use Rattle.std.specs.Prelude.{List, ◌≡◌, ℕ}
use Rattle.answers.specs.Refusals.{answer_of}
use Rattle.bodies.specs.WellFormed.{Bytes}
use Rattle.records.specs.Records.{refusals}
use Rattle.records.specs.declared.Asked.{Asked}

-- A body of bytes is accepted: no refusal applies that is asked before there is a buffer. Its record is `record_of asked.version body`,
-- its line `line_at asked body`, and the line's text `record_text asked body`.
pub record Printed (asked : Asked) (body : List ℕ) : Type 0 where
  pub bytes : Bytes body
  pub accepted : answer_of (refusals asked body) ≡ 0
