-- The theorem in the words of the record's outcome.
-- Assumes nothing.
use mathlib.Core.Path.{◌≡◌, refl, sym, ◌∙◌}
use mathlib.Core.List.{List, ◌++◌}
use mathlib.Core.Logic.{◌⊎◌, inl, inr}
use Prim.Native.Nat.{ℕ, ◌<◌}
use native.Mathlib.Omega.{arith}
use lib.ListN.{take}
use Rattle.answers.specs.Refusals.{Refusal, answer_of}
use Rattle.answers.specs.Outcomes.{Outcome, outcome_of, Gives}
use Rattle.answers.specs.Table.{Answered}
use Rattle.answers.specs.Reasons.{Answer, number_of_answer, length_of_answer}
use Rattle.answers.proofs.Firsts.{answer_before}
use Rattle.answers.proofs.Unique.{none_or_some}
use Rattle.bodies.specs.WellFormed.{Bytes}
use Rattle.records.specs.Records.{refusals, line_at, record_text, record_outcome}
use Rattle.records.specs.declared.Asked.{Asked}
use Rattle.records.proofs.Unique.{record_meets}
use Rattle.masm.specs.Lines.{shows, read}
use Rattle.readback.specs.Meaning.{meaning}
use Rattle.readback.specs.Printed.{Printed}
use Rattle.readback.proofs.Readback.{reads_back}

-- where no refusal applies, none of the first ones does
none_first : (rs ss : List Refusal) → answer_of (rs ++ ss) ≡ 0 → answer_of rs ≡ 0
none_first rs ss e = go (none_or_some (answer_of rs))
  where
    go : (answer_of rs ≡ 0) ⊎ (0 < answer_of rs) → answer_of rs ≡ 0
    go (inl z) = z
    go (inr some) = absurd (omega (arith, some, e, answer_before rs ss some refl))

-- ---- The buffer after a call

-- after answer 0 the first bytes of the buffer, up to the length, are the text
pub first_bytes : {rs : List Refusal} {text buf : List ℕ} {o : Outcome} {given : Answer} {after : List ℕ}
    → Answered rs text buf o.answer o.length o.buffer → Gives o given after → number_of_answer given ≡ 0 → take (length_of_answer given) after ≡ text
first_bytes met g z = rw (g.length, g.after) (met.front (sym g.answer ∙ z))

-- ---- The record entry

module _ (asked : Asked) (body buf : List ℕ) (bytes : Bytes body) (e : (record_outcome asked body buf).answer ≡ 0) where
  -- answer 0 is a printed line
  pub answer_0_printed : Printed asked body
  unfolding record_outcome outcome_of
  answer_0_printed = record { bytes = bytes; accepted = none_first (refusals asked body) _ e }

  -- and its text is read as what the line shows
  pub record_reads_back : (start : ℕ) → read start (record_text asked body) ≡ shows (meaning start (line_at asked body))
  record_reads_back start = reads_back answer_0_printed start

-- Where the record entry answers 0 with a length, so many bytes of the buffer after the call are read as what the record shows.
pub buffer_reads_back : (asked : Asked) (body buf : List ℕ) {after : List ℕ} {given : Answer} → Bytes body → Gives (record_outcome asked body buf) given after
    → number_of_answer given ≡ 0 → (start : ℕ) → read start (take (length_of_answer given) after) ≡ shows (meaning start (line_at asked body))
buffer_reads_back asked body buf bytes g z start =
    rw (first_bytes (record_meets asked body buf) g z) (record_reads_back asked body buf bytes (sym g.answer ∙ z) start)
