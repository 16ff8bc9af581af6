-- A listing that arrives in parts: what one step does with the bytes that are there.
-- Assumes nothing.
use Rattle.std.specs.Prelude.{◌≡◌, Bool, true, false, cond, List, [], ◌∷◌, ◌++◌, ℕ, ◌+◌, ◌-◌, ◌≤◌, ◌<◌, ltb, eqb, length, drop}
use Rattle.text.specs.Choice.{when}
use Rattle.frames.specs.Frames.{body_length, body_of, known_version}
use Rattle.bodies.specs.Refusals.{longest_body}
use Rattle.answers.specs.Lines.{refused_line}
use Rattle.answers.specs.Refusals.{mode as mode_number, length as length_number, answer_of}
use Rattle.records.specs.declared.Asked.{Asked}
use Rattle.records.specs.Records.{asked_refused, in_version, refusals}
use Rattle.records.specs.Lines.{record_line}
use Rattle.listings.specs.Lines.{cut_line, version_line}
use Rattle.streams.specs.declared.Stage.{Stage}
use Rattle.streams.specs.declared.Stage.TheVariants.{Version, Frames, Skip, Done}

-- what a step comes to: the stage then, how many bytes it used, what it says, and how many whole frames and refused ones it saw the
-- end of: one or none
pub record Taken : Type 0 where
  pub stage : Stage
  pub used : ℕ
  pub says : List ℕ
  pub records : ℕ
  pub refused : ℕ

-- a step that sees no frame's end
abbrev pub taken : Stage → ℕ → List ℕ → Taken
taken stage used says = record { stage = stage; used = used; says = says; records = 0; refused = 0 }

-- a step that does
abbrev pub ended : Stage → ℕ → List ℕ → ℕ → Taken
ended stage used says refused = record { stage = stage; used = used; says = says; records = 1; refused = refused }

-- a record is refused, or not, by its answer
abbrev pub refused_by : ℕ → ℕ
refused_by answer = cond (eqb answer 0) 0 1

-- the answer of a longer body than any that is right, in either version: 2, unless what is asked is refused, which comes first; document
-- 02, W-205: "answer 1 also for mode 2 with a version 1 record (in a listing, `; refused 1`)"
abbrev pub skipped : Asked → ℕ
skipped asked = cond (asked_refused asked) mode_number length_number

-- the version byte: "one version byte, 1, then records", or document 02's 2; the frames are of that version
abbrev pub version_step : List ℕ → Taken
version_step [] = taken Version 0 []
version_step (version ∷ xs) = cond (known_version version) (taken (Frames version) 1 []) (taken Done 1 version_line)

-- a frame: nothing until it is whole; a longer body than any that is right, which is no record's, is only counted; a record is asked for
-- in the listing's version
abbrev pub frame_step : (version : ℕ) → Asked → List ℕ → Taken
frame_step version asked xs =
    cond (ltb (length xs) 2) (taken (Frames version) 0 [])
    (cond (ltb longest_body (body_length xs)) (taken (Skip (body_length xs) (2 + body_length xs) version) 2 [])
    (cond (ltb (length xs) (2 + body_length xs)) (taken (Frames version) 0 [])
    (ended (Frames version) (2 + body_length xs) (record_line (in_version version asked) (body_of xs)) (refused_by (answer_of (refusals (in_version version asked) (body_of xs)))))))

-- the bytes of such a body: it is refused once all of them have come by
abbrev pub skip_step : (left size version : ℕ) → Asked → List ℕ → Taken
skip_step left size version asked xs =
    cond (ltb (length xs) left) (taken (Skip (left - length xs) size version) (length xs) [])
    (ended (Frames version) left (refused_line (skipped (in_version version asked))) 1)

unfoldable pub stepped : Asked → Stage → List ℕ → Taken
stepped asked Version xs = version_step xs
stepped asked (Frames version) xs = frame_step version asked xs
stepped asked (Skip left size version) xs = skip_step left size version asked xs
stepped asked Done xs = taken Done (length xs) []

-- a stage that a step can come to: where bytes are skipped, some are left, and they are of the frame
abbrev pub Alive : Stage → Type 0
Alive Version = Unit {0}
Alive (Frames version) = Unit {0}
Alive (Skip left size version) = (0 < left) × (left ≤ size)
Alive Done = Unit {0}

-- where the input ends with so many bytes held, it is cut, or not
abbrev pub cut_at : Stage → ℕ → Bool
cut_at Version held = true
cut_at (Frames version) held = ltb 0 held
cut_at (Skip left size version) held = true
cut_at Done held = false

-- how many bytes of a frame that has begun were used
abbrev pub begun_of : Stage → ℕ
begun_of Version = 0
begun_of (Frames version) = 0
begun_of (Skip left size version) = size - left
begun_of Done = 0

-- The input cut into reads in any way, and what the steps write. `held` are the bytes that are there.
--   read: more bytes come; step: a step is taken; end: no bytes come any more, and no step uses any
pub data Streams (asked : Asked) : Stage → List ℕ → List (List ℕ) → List ℕ → Type 0 where
  read : {stage : Stage} {held bytes : List ℕ} {reads : List (List ℕ)} {written : List ℕ} → Streams asked stage (held ++ bytes) reads written → Streams asked stage held (bytes ∷ reads) written
  step : {stage : Stage} {held : List ℕ} {reads : List (List ℕ)} {written : List ℕ} → Streams asked (stepped asked stage held).stage (drop (stepped asked stage held).used held) reads written → Streams asked stage held reads ((stepped asked stage held).says ++ written)
  end : {stage : Stage} {held : List ℕ} → (stepped asked stage held).used ≡ 0 → Streams asked stage held [] (when (cut_at stage (length held)) cut_line)
