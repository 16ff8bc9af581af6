-- One record: its refusals in the order in which they are asked, its text, and its outcome for all bodies, all that is asked, and
-- all buffers.
-- Assumes nothing.
use Rattle.std.specs.Prelude.{Bool, cond, not, ◌&&◌, ◌||◌, List, [], ◌∷◌, ℕ, ltb, eqb}
use Rattle.answers.specs.Refusals.{Refusal, refusal, mode, length, field, shape, size, broadcast, answer_of}
use Rattle.answers.specs.Outcomes.{Outcome, outcome_of, with_room}
use Rattle.bodies.specs.Refusals.{length_refused, field_refused}
use Rattle.bodies.specs.Decoding.{instruction_of}
use Rattle.bodies.specs.Versions.{fields, record_of}
use Rattle.frames.specs.Frames.{known_version}
use Rattle.branches.specs.declared.Mode.{Mode}
use Rattle.branches.specs.declared.Mode.TheVariants.{Crate, Straight, Target}
use Rattle.names.specs.declared.Arm.{Arm}
use Rattle.names.specs.Opcodes.{arm_of}
use Rattle.arms.specs.Shape.{shape_refused}
use Rattle.arms.specs.Size.{size_refused}
use Rattle.arms.specs.Decorations.{broadcast_refused}
use Rattle.arms.specs.Plans.{plan_of}
use Rattle.lines.specs.declared.Line.{Line}
use Rattle.lines.specs.Text.{line_by, line_text}
use Rattle.records.specs.declared.Asked.{Asked}

-- "1 mode: mode is not 0 or 1", and document 02's "new mode 2"
abbrev pub mode_refused : ℕ → Bool
mode_refused mode = ltb 2 mode

-- document 02, W-205: "answer 1 also for mode 2 with a version 1 record .. and for a record version not 1 or 2"
unfoldable pub asked_refused : Asked → Bool
asked_refused asked =
    mode_refused asked.mode || not (known_version asked.version) || (eqb asked.mode 2 && eqb asked.version 1)

-- "Mode 1, straight"; "New mode 2 .. prints the branch target"; mode 0 is the crate's
abbrev pub mode_of : Asked → Mode
mode_of asked = cond (eqb asked.mode 2) Target (cond (eqb asked.mode 1) Straight Crate)

-- the same asked of a record of this version: a listing's version is its own
abbrev pub in_version : ℕ → Asked → Asked
in_version version asked = record { mode = asked.mode; version = version }

-- the fields of a body of the version that is asked
abbrev pub fields_of : Asked → List ℕ → List ℕ
fields_of asked body = fields asked.version body

-- the arm of a record, by its fields
abbrev pub arm_at : List ℕ → Arm
arm_at f = arm_of (instruction_of f).opcode

-- a record's refusals before there is a buffer, each with its own rule, which speaks of its fields; document 02: 7 is asked "after 5 and
-- before room"
unfoldable pub refusals : Asked → List ℕ → List Refusal
refusals asked body =
    let f = fields_of asked body in
    refusal mode (asked_refused asked)
    ∷ refusal length (length_refused f)
    ∷ refusal field (field_refused f)
    ∷ refusal shape (shape_refused (arm_at f) (instruction_of f))
    ∷ refusal size (size_refused (arm_at f) (instruction_of f))
    ∷ refusal broadcast (broadcast_refused (arm_at f) (instruction_of f))
    ∷ []

-- what the record's line shows, and its text
unfoldable pub line_at : Asked → List ℕ → Line
line_at asked body =
    let f = fields_of asked body in
    line_by (mode_of asked) (arm_at f) (plan_of (arm_at f) (instruction_of f)) (record_of asked.version body)

unfoldable pub record_text : Asked → List ℕ → List ℕ
record_text asked body = line_text (line_at asked body)

-- the outcome of the record entry point: its refusals, and last the one for room
unfoldable pub record_outcome : Asked → (body buf : List ℕ) → Outcome
record_outcome asked body buf =
    outcome_of (answer_of (with_room (refusals asked body) (record_text asked body) buf)) (record_text asked body) buf
