-- The outcome of a record meets document 01's answer table with a record's refusals, and nothing else does.
-- Assumes nothing.
use mathlib.Core.Path.{◌≡◌, refl}
use mathlib.Core.Bool.{true}
use mathlib.Core.List.{List}
use Prim.Native.Nat.{ℕ}
use Rattle.answers.specs.Refusals.{ascending}
use Rattle.answers.specs.Outcomes.{with_room}
use Rattle.answers.specs.Table.{Answered}
use Rattle.answers.proofs.Unique.{room_numbered, room_meets, only}
use Rattle.records.specs.Records.{refusals, record_text, record_outcome}
use Rattle.records.specs.declared.Asked.{Asked}
use Rattle.records.proofs.Judging.{refusals-never-zero}

module _ (asked : Asked) (body buf : List ℕ) where
  pub record_meets : let o = record_outcome asked body buf in Answered (with_room (refusals asked body) (record_text asked body) buf) (record_text asked body) buf o.answer o.length o.buffer
  unfolding record_outcome
  record_meets = room_meets (refusals asked body) (refusals-never-zero asked body) (record_text asked body) buf

  pub record_only : {answer n : ℕ} {after : List ℕ} → Answered (with_room (refusals asked body) (record_text asked body) buf) (record_text asked body) buf answer n after → let o = record_outcome asked body buf in (answer ≡ o.answer) × (n ≡ o.length) × (after ≡ o.buffer)
  unfolding record_outcome
  record_only met = only (room_numbered (refusals asked body) (refusals-never-zero asked body) (record_text asked body) buf) met

  -- "The lowest number that applies is given": the numbers ascend in the order in which they are asked, but for room, which is asked last
  pub record_ascends : ascending (refusals asked body) ≡ true
  unfolding refusals
  record_ascends = refl
