-- A body without bytes is refused, and so has no text alone.
-- Assumes nothing.
use mathlib.Core.Path.{◌≡◌, refl, sym}
use mathlib.Core.Bool.{Bool, true, false, cond}
use mathlib.Core.List.{List, [], ◌∷◌}
use Prim.Native.Nat.{ℕ, suc, ◌<◌}
use native.Mathlib.Omega.{arith}
use lib.ListN as list
use Rattle.std.specs.Prelude.{Err}
use Rattle.answers.specs.Reasons.{number_of}
use Rattle.answers.specs.declared.Reason.{Reason}
use Rattle.answers.specs.declared.Refused.TheVariants.{For}
use Rattle.answers.specs.Outcomes.{Gives}
use Rattle.answers.specs.Refusals.{mode, length, answer_of}
use Rattle.bodies.specs.Refusals.{length_refused}
use Rattle.bodies.proofs.Versions.{fields-empty}
use Rattle.records.specs.declared.Asked.{Asked}
use Rattle.records.specs.Records.{asked_refused, refusals, record_outcome}
use Rattle.records.specs.Judged.{text_of}
use Rattle.records.proofs.Texts.{alone_refused, refused_gives}

empty_refused : length_refused [] ≡ true
unfolding length_refused
empty_refused = refl

-- its answer is that of the mode, or of the length
pub empty_answer : (asked : Asked) → answer_of (refusals asked []) ≡ cond (asked_refused asked) mode length
unfolding refusals
empty_answer asked = rw (fields-empty asked.version, empty_refused)

some : (b : Bool) → 0 < cond b mode length
some true = omega arith
some false = omega arith

pub empty_text : (asked : Asked) → text_of true asked [] ≡ []
empty_text asked = alone_refused asked [] (sym (empty_answer asked)) (some (asked_refused asked))

-- its outcome
pub empty_gives : (asked : Asked) (body buf : List ℕ) {reason : Reason} → list.length body ≡ 0 → number_of reason ≡ answer_of (refusals asked []) → Gives (record_outcome asked body buf) (Err (For reason)) buf
empty_gives asked [] buf none e = refused_gives asked [] buf e
empty_gives asked (x ∷ xs) buf none e = absurd (let h : suc (list.length xs) ≡ 0 = none in omega arith)
