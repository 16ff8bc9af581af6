-- What an answer and a buffer have to be to be an outcome's.
-- Assumes nothing.
use mathlib.Core.Path.{◌≡◌, refl, sym, subst}
use mathlib.Core.Bool.{false}
use mathlib.Core.List.{List}
use Prim.Native.Nat.{ℕ, ◌≤◌, ◌<◌}
use native.Mathlib.Nat.{zero-add}
use lib.Dec.{eqb}
use lib.ListN.{length}
use borrow.Author.Tests.{lt-ltb, le-ltb}
use Rattle.std.specs.Prelude.{Ok, Err}
use Rattle.text.specs.Code.{Put}
use Rattle.answers.specs.Refusals.{room}
use Rattle.answers.specs.Outcomes.{Outcome, outcome_of, Gives}
use Rattle.answers.specs.Code.{text_outcome}
use Rattle.answers.specs.Reasons.{number_of, Answer}
use Rattle.answers.specs.declared.Reason.{Reason}
use Rattle.answers.specs.declared.Reason.TheVariants.{Mode, Length, Field, Shape, Size, Broadcast}
use Rattle.answers.specs.declared.Refused.TheVariants.{For, Room}

-- the number of a reason is neither that of a printed text nor that of room
number_apart : (reason : Reason) → (eqb (number_of reason) 0 ≡ false) × (eqb (number_of reason) room ≡ false)
number_apart Mode = (refl, refl)
number_apart Length = (refl, refl)
number_apart Field = (refl, refl)
number_apart Shape = (refl, refl)
number_apart Size = (refl, refl)
number_apart Broadcast = (refl, refl)

module _ {a : ℕ} (text buf : List ℕ) where
  -- a refusal but the one for room leaves the buffer as it was, and has no length
  pub gives_refused : {reason : Reason} → number_of reason ≡ a → Gives (outcome_of a text buf) (Err (For reason)) buf
  unfolding outcome_of
  gives_refused {reason} e =
      let apart = number_apart reason in
      record { answer = e; length = rw (← e, apart.0, apart.1); after = rw (← e, apart.0) }

  pub gives_room : {n : ℕ} → n ≡ length text → a ≡ room → Gives (outcome_of a text buf) (Err (Room n)) buf
  unfolding outcome_of
  gives_room needed e = record { answer = sym e; length = rw (e, needed); after = rw e }

  pub gives_printed : {n : ℕ} {after : List ℕ} → Put buf 0 text n after → a ≡ 0 → Gives (outcome_of a text buf) (Ok n) after
  unfolding outcome_of
  gives_printed put e = record { answer = sym e; length = rw (e, put.next, zero-add (length text)); after = rw (e, put.text) }

-- a text by whether it fits
pub text_printed : (t : List ℕ) {buf : List ℕ} {n : ℕ} {after : List ℕ} → length t ≤ length buf → Put buf 0 t n after → Gives (text_outcome t buf) (Ok n) after
unfolding text_outcome
text_printed t {buf} fits put = gives_printed t buf put (rw (le-ltb (length buf) (length t) fits))

pub text_refused : (t : List ℕ) {buf : List ℕ} {n : ℕ} → n ≡ length t → length buf < n → Gives (text_outcome t buf) (Err (Room n)) buf
unfolding text_outcome
text_refused t {buf} needed h = gives_room t buf needed (rw (lt-ltb (length buf) (length t) (rw needed at h)))

-- an outcome under another name
pub gives_as : {o p : Outcome} {a : Answer} {b : List ℕ} → o ≡ p → Gives o a b → Gives p a b
gives_as {a = a} {b} e g = subst (λ (q : Outcome). Gives q a b) e g
