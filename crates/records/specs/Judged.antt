-- What the code makes of a record before there is a buffer, and no promise: the first refusal's number, or the arm and the plan.
-- Assumes nothing.
use Rattle.std.specs.Prelude.{Option, Bool, false, not, cond, List, ◌≡◌, ℕ, eqb}
use Rattle.text.specs.Code.{Put}
use Rattle.text.specs.Choice.{when}
use Rattle.answers.specs.Refusals.{answer_of}
use Rattle.answers.specs.Lines.{refused_line}
use Rattle.answers.specs.Reasons.{answer_as}
use Rattle.answers.specs.declared.Reason.{Reason}
use Rattle.bodies.specs.declared.Front.{Front}
use Rattle.bodies.specs.Code.{fields_by}
use Rattle.bodies.specs.Decoding.{instruction_of}
use Rattle.bodies.specs.Versions.{start_of}
use Rattle.names.specs.declared.Arm.{Arm}
use Rattle.places.specs.declared.Plan.{Plan}
use Rattle.arms.specs.Plans.{plan_of}
use Rattle.records.specs.Lines.{record_line}
use Rattle.records.specs.Records.{asked_refused, fields_of, arm_at, refusals, record_text}
use Rattle.records.specs.declared.Asked.{Asked}

-- the answer of fields: that of every body that has them, in every mode and version that is asked rightly
abbrev pub FieldsAnswer : List ℕ → ℕ → Type 0
FieldsAnswer f answer =
    (asked : Asked) (body : List ℕ) → asked_refused asked ≡ false → fields_of asked body ≡ f → answer_of (refusals asked body) ≡ answer

-- fields that nothing refuses, their arm, and the plan of their line
pub record AcceptsFields (f : List ℕ) (arm : Arm) (plan : Plan) : Type 0 where
  pub answer : FieldsAnswer f 0
  pub own_arm : arm ≡ arm_at f
  pub own_plan : plan ≡ plan_of (arm_at f) (instruction_of f)

-- a body that nothing refuses, with the arm and the plan of its line, and the front and the rest that its fields are
pub record Accepts (asked : Asked) (body : List ℕ) (arm : Arm) (plan : Plan) (front : Front) (rest : List ℕ) : Type 0 where
  pub answer : answer_of (refusals asked body) ≡ 0
  pub own_arm : arm ≡ arm_at (fields_of asked body)
  pub own_plan : plan ≡ plan_of (arm_at (fields_of asked body)) (instruction_of (fields_of asked body))
  pub fields : fields_of asked body ≡ fields_by front rest
  pub start : start_of asked.version body ≡ front.start

-- what is put of a refused record: nothing alone, and its line in a listing
abbrev pub refused_as : (alone : Bool) → ℕ → List ℕ
refused_as alone answer = when (not alone) (refused_line answer)

-- alone a record has its text, and none where it is refused
abbrev pub alone_with : ℕ → List ℕ → List ℕ
alone_with answer text = when (eqb answer 0) text

-- the text of a record, alone or in a listing
unfoldable pub text_of : (alone : Bool) → Asked → List ℕ → List ℕ
text_of alone asked body =
    cond alone (alone_with (answer_of (refusals asked body)) (record_text asked body)) (record_line asked body)

-- what was put of a record: its answer before there is a buffer, and its text
pub record Puts (alone : Bool) (asked : Asked) (body before : List ℕ) (at : ℕ) (refused : Option Reason) (out : ℕ) (after : List ℕ) : Type 0 where
  pub answer : answer_as refused ≡ answer_of (refusals asked body)
  pub put : Put before at (text_of alone asked body) out after
