-- A length fits 32 bits, of a record and of a listing alike.
-- Assumes nothing.
use mathlib.Core.Path.{◌≡◌, refl}
use mathlib.Core.Bool.{Bool, true, false, ◌||◌}
use mathlib.Core.List.{List, [], ◌∷◌}
use Prim.Native.Nat.{ℕ, ◌+◌, ◌*◌, ◌^◌, ◌≤◌, ◌<◌}
use native.Mathlib.Omega.{arith}
use lib.Dec.{ltb, eqb, lit<, lit≤}
use lib.ListN.{length}
use borrow.Author.Tests.{ltb-false}
use Rattle.text.proofs.Choosing.{cond_by, cond_most}
use Rattle.answers.specs.Refusals.{room, refusal, answer_of}
use Rattle.answers.specs.Outcomes.{length_with, room_refused, outcome_of}
use Rattle.records.specs.declared.Asked.{Asked}
use Rattle.records.specs.Records.{in_version, mode_refused, record_text, record_outcome}
use Rattle.records.proofs.Texts as records
use Rattle.frames.specs.Frames.{known_version}
use Rattle.listings.specs.Lines.{listing_text}
use Rattle.listings.specs.Listings.{size_limit, listing_refusals, listing_outcome}
use Rattle.listings.proofs.LineLaws.{lines_short}

length_most : (a : ℕ) (t : List ℕ) → length_with a t ≤ length t
length_most a t = cond_most (eqb a 0 || eqb a room) (length t)

pub record_fits : (asked : Asked) (body buf : List ℕ) → (record_outcome asked body buf).length < 2 ^ 32
unfolding record_outcome outcome_of
record_fits asked body buf =
    omega (arith, length_most (record_outcome asked body buf).answer (record_text asked body), records.text_short asked body)

text_short : (asked : Asked) (xs : List ℕ) → length (listing_text asked xs) ≤ 9 * length xs + 10
unfolding listing_text
text_short asked [] = lit≤ tt
text_short asked (v ∷ xs) =
    cond_by (λ (t : List ℕ). length t ≤ 9 * length (v ∷ xs) + 10) (known_version v) (λ e. omega (arith, lines_short (in_version v asked) xs)) (λ e. omega arith)

-- a listing over the limit has no length at all
limited : (m l r : Bool) (t : List ℕ) → (l ≡ false → length t < 2 ^ 32) → length_with (answer_of (refusal 1 m ∷ refusal 2 l ∷ refusal 6 r ∷ [])) t < 2 ^ 32
limited true l r t h = lit< tt
limited false true r t h = lit< tt
limited false false true t h = h refl
limited false false false t h = h refl

pub listing_fits : (asked : Asked) (xs buf : List ℕ) → (listing_outcome asked xs buf).length < 2 ^ 32
unfolding listing_outcome outcome_of listing_refusals
listing_fits asked xs buf =
    limited (mode_refused asked.mode) (ltb size_limit (length xs)) (room_refused (listing_text asked xs) buf) (listing_text asked xs)
    (λ (e : ltb size_limit (length xs) ≡ false). omega (arith, ltb-false size_limit (length xs) e, text_short asked xs))
