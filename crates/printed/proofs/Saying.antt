-- What an entry point comes to before there is a buffer, and what that says of every buffer.
-- Assumes nothing.
use mathlib.Core.Path.{◌≡◌, sym, ap}
use mathlib.Core.Bool.{Bool, true, not}
use mathlib.Core.List.{List, []}
use Prim.Native.Nat.{ℕ, ◌<◌}
use native.Mathlib.Omega.{arith}
use borrow.Author.Tests.{le-ltb, lt-ltb, ltb-true, ne_eqb, eqb-false, not-true}
use lib.Dec.{eqb, ltb}
use lib.ListN as list
use Rattle.text.specs.Words.{bytes}
use Rattle.answers.specs.Refusals.{Refusal, NeverZero, room, answer_of}
use Rattle.answers.specs.Outcomes.{Outcome, outcome_of, with_room}
use Rattle.answers.proofs.Firsts.{never-zero_by, answer_append, answer_before}
use Rattle.records.specs.declared.Asked.{Asked}
use Rattle.records.specs.Records.{refusals, record_text, record_outcome}
use Rattle.records.proofs.Judging.{refusals-never-zero}
use Rattle.listings.specs.Lines.{listing_text}
use Rattle.listings.specs.Listings.{listing_refusals, listing_outcome}
use Rattle.printed.specs.Rows.{Expected, prints, answers, Printed, Answered, Says}

-- the answer before there is a buffer, the text where one is said, and that an answer said is neither 0 nor the one for room
abbrev pub Found : Type 0
Found = record { answer : ℕ; text : List ℕ; some : Bool; other : Bool }

abbrev pub found : Expected → List Refusal → List ℕ → Found
found (prints said) rs text = record { answer = answer_of rs; text = text; some = true; other = true }
found (answers n) rs text = record { answer = answer_of rs; text = []; some = ltb 0 n; other = not (eqb n room) }

abbrev pub wanted : Expected → Found
wanted (prints said) = record { answer = 0; text = bytes said; some = true; other = true }
wanted (answers n) = record { answer = n; text = []; some = true; other = true }

-- an entry point's outcome, by its refusals and its text
abbrev pub by : List Refusal → List ℕ → List ℕ → Outcome
by rs text buf = outcome_of (answer_of (with_room rs text buf)) text buf

-- where nothing refuses, the text is printed
printed : (rs : List Refusal) (text : List ℕ) → NeverZero rs → answer_of rs ≡ 0 → Printed (by rs text) text
unfolding outcome_of
printed rs text numbered none =
    record {
      with_room_lem = λ buf fits. rw (answer_append rs _ numbered none, le-ltb (list.length buf) (list.length text) fits);
      without = λ buf lacks. rw (answer_append rs _ numbered none, lt-ltb (list.length buf) (list.length text) lacks);
    }

-- what refuses is the answer, whatever the text
answered : (rs : List Refusal) (text : List ℕ) (n : ℕ) → 0 < n → (n ≡ room → ⊥) → answer_of rs ≡ n → Answered (by rs text) n
unfolding outcome_of
answered rs text n some other e buf =
    rw (answer_before rs _ some e, ne_eqb n 0 (λ z. omega (arith, some, z)), ne_eqb n 6 other)

-- what is found as it is said holds of every buffer
pub says : (said : Expected) (rs : List Refusal) (text : List ℕ) → NeverZero rs → found said rs text ≡ wanted said → Says (by rs text) said
says (prints said) rs text numbered e =
    let is : text ≡ bytes said = ap (λ (f : Found). f.text) e in
    rw (sym is) (printed rs text numbered (ap (λ (f : Found). f.answer) e))
says (answers n) rs text numbered e =
    answered rs text n (ltb-true 0 n (ap (λ (f : Found). f.some) e)) (eqb-false n room (not-true (eqb n room) (ap (λ (f : Found). f.other) e)))
    (ap (λ (f : Found). f.answer) e)

-- of a record
pub record_says : (said : Expected) (asked : Asked) (given : List ℕ) → found said (refusals asked given) (record_text asked given) ≡ wanted said → Says (record_outcome asked given) said
unfolding record_outcome
record_says said asked given e = says said (refusals asked given) (record_text asked given) (refusals-never-zero asked given) e

-- of a listing
listing_numbered : (asked : Asked) (given : List ℕ) → NeverZero (listing_refusals asked given)
unfolding listing_refusals
listing_numbered asked given = never-zero_by (listing_refusals asked given) tt

pub listing-says : (said : Expected) (asked : Asked) (given : List ℕ) → found said (listing_refusals asked given) (listing_text asked given) ≡ wanted said → Says (listing_outcome asked given) said
unfolding listing_outcome
listing-says said asked given e = says said (listing_refusals asked given) (listing_text asked given) (listing_numbered asked given) e
