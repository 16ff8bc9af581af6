-- "A listing prints each record and a newline; a refused one prints `; refused N`."
-- Assumes nothing.
use Rattle.std.specs.Prelude.{cond, List, ◌++◌, ℕ, eqb}
use Rattle.answers.specs.Refusals.{answer_of}
use Rattle.answers.specs.Lines.{newline, refused_line}
use Rattle.records.specs.declared.Asked.{Asked}
use Rattle.records.specs.Records.{refusals, record_text}

-- a record's line by its answer: its text, or the refusal's number
abbrev pub line_with : ℕ → List ℕ → List ℕ
line_with answer text = cond (eqb answer 0) (text ++ newline) (refused_line answer)

unfoldable pub record_line : Asked → List ℕ → List ℕ
record_line asked body = line_with (answer_of (refusals asked body)) (record_text asked body)
