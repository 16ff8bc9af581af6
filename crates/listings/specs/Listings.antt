-- The outcome of the listing entry point for all listings, all that is asked, and all buffers.
-- Assumes nothing.
use Rattle.std.specs.Prelude.{List, [], ◌∷◌, ℕ, ltb}
use Rattle.std.proofs.Math.ListN as list
use Rattle.answers.specs.Refusals.{Refusal, refusal, mode, length, answer_of}
use Rattle.answers.specs.Outcomes.{Outcome, outcome_of, with_room}
use Rattle.records.specs.declared.Asked.{Asked}
use Rattle.records.specs.Records.{mode_refused}
use Rattle.listings.specs.Lines.{listing_text}

-- "listing over 16,777,216 bytes"
abbrev pub size_limit : ℕ
size_limit = 16_777_216

-- of a listing's refusals only mode, length and room can apply: a record's own stand in its line, also that of a mode for its version
unfoldable pub listing_refusals : Asked → List ℕ → List Refusal
listing_refusals asked listing =
    refusal mode (mode_refused asked.mode) ∷ refusal length (ltb size_limit (list.length listing)) ∷ []

unfoldable pub listing_outcome : Asked → (listing buf : List ℕ) → Outcome
listing_outcome asked listing buf =
    outcome_of (answer_of (with_room (listing_refusals asked listing) (listing_text asked listing) buf)) (listing_text asked listing) buf
