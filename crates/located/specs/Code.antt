-- What contracts inside the printer speak of, and no promise: what was put of a body's byte and of a record, and the code's step.
-- Assumes nothing.
use Rattle.std.specs.Prelude.{◌≡◌, ℕ, ◌≤◌, cond, List, [], length, drop, ◌==◌, Option}
use Rattle.text.specs.Code.{Put}
use Rattle.answers.specs.Lines.{refused_text}
use Rattle.answers.specs.declared.Reason.{Reason}
use Rattle.answers.specs.Reasons.{answer_as}
use Rattle.answers.specs.Refusals.{answer_of}
use Rattle.records.specs.declared.Asked.{Asked}
use Rattle.records.specs.Records.{refusals}
use Rattle.located.specs.declared.Stage.{Stage}
use Rattle.streams.specs.declared.Step.{Step}
use Rattle.located.specs.Parts.{on_line, room_after, longest_part}
use Rattle.located.specs.Pass.{Goes, Unused}

-- a byte of a body was put, and the line has room for so many more
pub record PutOn (room b : ℕ) (before : List ℕ) (at out left : ℕ) (after : List ℕ) : Type 0 where
  pub left_is : left ≡ room_after room
  pub put : Put before at (on_line room b) out after

-- what is said of a refused record; of another, nothing
unfoldable pub refusal_text : ℕ → List ℕ
refusal_text number = cond (number == 0) [] (refused_text number)

-- what was put of a record: its answer before there is a buffer, and this text
pub record Says (asked : Asked) (body says before : List ℕ) (at : ℕ) (refused : Option Reason) (out : ℕ) (after : List ℕ) : Type 0 where
  pub answer : answer_as refused ≡ answer_of (refusals asked body)
  pub put : Put before at says out after

-- the code's step: what it says was put, and it goes on from there; where it uses nothing, it says nothing, and there is no whole frame
pub record Steps (asked : Asked) (stage : Stage) (held before : List ℕ) (out : ℕ) (step : Step Stage) (after : List ℕ) : Type 0 where
  pub says : List ℕ
  pub put : Put before out says step.out after
  pub goes : Goes asked stage held says step.stage (drop step.used held) step.records step.refused
  pub uses : step.used ≤ length held
  pub short : length says ≤ longest_part
  pub refuses : step.refused ≤ step.records
  pub counts : step.records ≤ step.used
  pub none : step.used ≡ 0 → (says ≡ []) × ((step.stage ≡ stage) × (Unused stage held))
