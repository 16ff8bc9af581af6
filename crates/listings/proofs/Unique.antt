-- A listing's outcome meets document 01's answer table, and nothing else does.
-- Assumes nothing.
use mathlib.Core.Path.{◌≡◌, refl}
use mathlib.Core.Bool.{true}
use mathlib.Core.List.{List}
use Prim.Native.Nat.{ℕ}
use Rattle.answers.specs.Refusals.{NeverZero, ascending}
use Rattle.answers.specs.Outcomes.{with_room}
use Rattle.answers.specs.Table.{Answered}
use Rattle.answers.proofs.Firsts.{never-zero_by}
use Rattle.answers.proofs.Unique.{room_numbered, room_meets, only}
use Rattle.records.specs.declared.Asked.{Asked}
use Rattle.listings.specs.Lines.{listing_text}
use Rattle.listings.specs.Listings.{listing_refusals, listing_outcome}

module _ (asked : Asked) (listing buf : List ℕ) where
  refusals-never-zero : NeverZero (listing_refusals asked listing)
  unfolding listing_refusals
  refusals-never-zero = never-zero_by (listing_refusals asked listing) tt

  pub listing_meets : let o = listing_outcome asked listing buf in Answered (with_room (listing_refusals asked listing) (listing_text asked listing) buf) (listing_text asked listing) buf o.answer o.length o.buffer
  unfolding listing_outcome
  listing_meets = room_meets (listing_refusals asked listing) refusals-never-zero (listing_text asked listing) buf

  pub listing_only : {answer n : ℕ} {after : List ℕ} → Answered (with_room (listing_refusals asked listing) (listing_text asked listing) buf) (listing_text asked listing) buf answer n after → let o = listing_outcome asked listing buf in (answer ≡ o.answer) × (n ≡ o.length) × (after ≡ o.buffer)
  unfolding listing_outcome
  listing_only met = only (room_numbered (listing_refusals asked listing) refusals-never-zero (listing_text asked listing) buf) met

  -- "The lowest number that applies is given": the numbers ascend in the order in which they are asked
  pub listing_ascends : ascending (with_room (listing_refusals asked listing) (listing_text asked listing) buf) ≡ true
  unfolding listing_refusals
  listing_ascends = refl
