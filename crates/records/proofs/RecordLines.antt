-- How long a record's line is: no longer than the longest line and its newline, and no longer than nine times its frame.
-- Assumes nothing.
use mathlib.Core.Path.{◌≡◌, refl}
use mathlib.Core.Logic.{◌⊎◌, inl, inr}
use mathlib.Core.List.{List, ◌++◌}
use Prim.Native.Nat.{ℕ, ◌+◌, ◌*◌, ◌≤◌, ◌<◌}
use native.Mathlib.Omega.{arith}
use lib.ListN.{length, length-append}
use Rattle.answers.specs.Refusals.{answer_of}
use Rattle.answers.specs.Lines.{newline, refused_line}
use Rattle.answers.proofs.Lines.{refused_most}
use Rattle.answers.proofs.Unique.{none_or_some}
use Rattle.bodies.specs.Body.{count_of}
use Rattle.bodies.specs.Decoding.{instruction_of}
use Rattle.bodies.specs.Versions.{start_of}
use Rattle.bodies.proofs.Lengths.{length_least}
use Rattle.bodies.proofs.Versions.{fields_most}
use Rattle.arms.specs.Plans.{plan_of}
use Rattle.lines.specs.Text.{longest_line}
use Rattle.lines.proofs.Rooms.{line_within}
use Rattle.records.specs.declared.Asked.{Asked}
use Rattle.records.specs.Records.{mode_of, fields_of, arm_at, refusals, line_at, record_text}
use Rattle.records.specs.Lines.{record_line}
use Rattle.records.proofs.Judging.{unrefused}
use Rattle.records.proofs.Texts.{text_short, line_refused, line_accepted}
use Rattle.records.proofs.InOrder.{plan_in_order}

module _ (asked : Asked) (body : List ℕ) where
  -- a record is accepted, or refused
  by_answer : (P : List ℕ → Type 0) → (answer_of (refusals asked body) ≡ 0 → P (record_text asked body ++ newline)) → ((n : ℕ) → P (refused_line n)) → P (record_line asked body)
  by_answer P f g = go (none_or_some (answer_of (refusals asked body)))
    where
      go : (answer_of (refusals asked body) ≡ 0) ⊎ (0 < answer_of (refusals asked body)) → P (record_line asked body)
      go (inl e) = rw (line_accepted asked body e) (f e)
      go (inr some) = rw (line_refused asked body refl some) (g (answer_of (refusals asked body)))

  -- "A line may have 320 bytes", and its newline
  pub record_line_short : length (record_line asked body) ≤ longest_line + 1
  record_line_short =
      by_answer (λ (t : List ℕ). length t ≤ longest_line + 1)
      (λ e. omega (arith, length-append (record_text asked body) newline, text_short asked body))
      (λ n. omega (arith, refused_most n))

  text_within : answer_of (refusals asked body) ≡ 0 → length (record_text asked body) + 1 ≤ 9 * (16 + 5 * count_of (fields_of asked body))
  unfolding record_text line_at
  text_within e =
      let f = fields_of asked body in
      line_within (mode_of asked) (arm_at f) (plan_of (arm_at f) (instruction_of f)) (start_of asked.version body) f (plan_in_order (arm_at f) (instruction_of f))
      (unrefused asked body e).few

  pub record_line_within : length (record_line asked body) ≤ 9 * (2 + length body)
  record_line_within =
      by_answer (λ (t : List ℕ). length t ≤ 9 * (2 + length body))
      (λ e. omega (arith, length-append (record_text asked body) newline, text_within e, length_least (fields_of asked body) (unrefused asked body e).held, fields_most asked.version body))
      (λ n. omega (arith, refused_most n))
