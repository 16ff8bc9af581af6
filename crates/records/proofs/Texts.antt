-- The text of a record by its answer, alone and in a listing.
-- Assumes nothing.
use mathlib.Core.Path.{◌≡◌, refl, sym, ap, subst, ◌∙◌}
use mathlib.Core.Bool.{Bool, true, false, not}
use mathlib.Core.List.{List, [], ◌++◌, append-nil}
use mathlib.Core.Logic.{◌⊎◌, inl, inr}
use Prim.Native.Nat.{ℕ, ◌≤◌, ◌<◌}
use native.Mathlib.Nat.{zero-add}
use native.Mathlib.Omega.{arith}
use lib.ListN.{length, take}
use borrow.Author.Tests.{ne_eqb}
use Rattle.text.specs.Choice.{when}
use Rattle.text.specs.Code.{Room, Put}
use Rattle.text.proofs.Putting.{room_as, put_as}
use Rattle.text.proofs.Writing.{write_none, take-write}
use Rattle.answers.specs.Refusals.{answer_of}
use Rattle.std.specs.Prelude.{Option, Some, None, Ok, Err}
use Rattle.answers.specs.Reasons.{number_of, answer_as, Answer}
use Rattle.answers.specs.declared.Reason.{Reason}
use Rattle.answers.specs.declared.Refused.TheVariants.{For}
use Rattle.answers.specs.Outcomes.{Gives}
use Rattle.answers.specs.Code.{text_outcome}
use Rattle.answers.specs.Lines.{newline, refused_line}
use Rattle.answers.proofs.Unique.{none_or_some}
use Rattle.answers.proofs.Firsts.{answer_append, answer_before}
use Rattle.answers.proofs.Outcomes.{gives_refused, gives_as, text_printed}
use Rattle.bodies.specs.Body.{count_of}
use Rattle.bodies.specs.Code.{fields_by, instruction_by}
use Rattle.bodies.specs.declared.Front.{Front}
use Rattle.bodies.specs.Decoding.{instruction_of}
use Rattle.bodies.specs.Versions.{record_of}
use Rattle.operands.specs.declared.Instruction.{Instruction}
use Rattle.names.specs.declared.Arm.{Arm}
use Rattle.places.specs.declared.Plan.{Plan}
use Rattle.places.specs.Order.{from_the_left}
use Rattle.places.specs.Places.{items_at}
use Rattle.arms.specs.Plans.{plan_of}
use Rattle.branches.specs.declared.Mode.{Mode}
use Rattle.lines.specs.Text.{line_by, line_text, longest_line}
use Rattle.lines.proofs.Short.{line_short}
use Rattle.records.specs.Records.{mode_of, fields_of, arm_at, refusals, line_at, record_text, record_outcome}
use Rattle.records.specs.Lines.{record_line}
use Rattle.records.specs.Judged.{Accepts, refused_as, text_of, Puts}
use Rattle.records.specs.declared.Asked.{Asked}
use Rattle.records.proofs.Judging.{number_some, refusals-never-zero, unrefused, plan_from_the_left}

-- what an entry point gives of a record alone: why it is refused, or the length of its text
abbrev pub given : Option Reason → ℕ → Answer
given None n = Ok n
given (Some reason) n = Err (For reason)

module _ (asked : Asked) (body : List ℕ) where
  -- no line exceeds the longest
  pub text_short : length (record_text asked body) ≤ longest_line
  unfolding record_text
  text_short = line_short (line_at asked body)

  -- a refused record
  module _ {n : ℕ} (e : n ≡ answer_of (refusals asked body)) (some : 0 < n) where
    pub alone_refused : text_of true asked body ≡ []
    unfolding text_of
    alone_refused = rw (← e, ne_eqb n 0 (λ q. omega (arith, some, q)))

    pub line_refused : record_line asked body ≡ refused_line n
    unfolding record_line
    line_refused = rw (← e, ne_eqb n 0 (λ q. omega (arith, some, q)))

    pub listed_refused : text_of false asked body ≡ refused_line n
    unfolding text_of
    listed_refused = line_refused

    refused_as_lem : (alone : Bool) → text_of alone asked body ≡ refused_as alone n
    refused_as_lem true = alone_refused
    refused_as_lem false = listed_refused

  -- what is put of a record that is refused for a reason
  module _ (reason : Reason) (e : number_of reason ≡ answer_of (refusals asked body)) (alone : Bool) where
    text_is_refused : text_of alone asked body ≡ refused_as alone (number_of reason)
    text_is_refused = refused_as_lem e (number_some reason) alone

    pub refused_room : {xs : List ℕ} {at : ℕ} → Room xs at (text_of alone asked body) → Room xs at (refused_as alone (number_of reason))
    refused_room room = room_as text_is_refused room

    pub refused_puts : {xs ys : List ℕ} {at out : ℕ} {refused : Option Reason} → refused ≡ Some reason → Put xs at (refused_as alone (number_of reason)) out ys → Puts alone asked body xs at refused out ys
    refused_puts is put = record { answer = ap answer_as is ∙ e; put = put_as (sym text_is_refused) put }

  -- an accepted record
  module _ (e : answer_of (refusals asked body) ≡ 0) where
    pub alone_text : text_of true asked body ≡ record_text asked body
    unfolding text_of
    alone_text = rw e

    pub line_accepted : record_line asked body ≡ record_text asked body ++ newline
    unfolding record_line
    line_accepted = rw e

    ended : (alone : Bool) → text_of alone asked body ≡ record_text asked body ++ when (not alone) newline
    unfolding text_of
    ended true = rw e (sym (append-nil (record_text asked body)))
    ended false = line_accepted

    module _ {arm : Arm} {plan : Plan} {mode : Mode} {i : Instruction} (a : arm ≡ arm_at (fields_of asked body)) (p : plan ≡ plan_of (arm_at (fields_of asked body)) (instruction_of (fields_of asked body))) (m : mode ≡ mode_of asked) (r : record_of asked.version body ≡ i) where
      pub text_is : record_text asked body ≡ line_text (line_by mode arm plan i)
      unfolding record_text line_at
      text_is = rw (a, p, m, ← r)

      pub accepted_text : (alone : Bool) → text_of alone asked body ≡ line_text (line_by mode arm plan i) ++ when (not alone) newline
      accepted_text alone = ended alone ∙ ap (λ (t : List ℕ). t ++ when (not alone) newline) text_is

    -- its outcome is by the room alone
    pub outcome_text : (buf : List ℕ) → text_outcome (record_text asked body) buf ≡ record_outcome asked body buf
    unfolding text_outcome record_outcome
    outcome_text buf = rw (answer_append (refusals asked body) _ (refusals-never-zero asked body) e)

  -- the outcome of a refused record
  pub refused_gives : {reason : Reason} (buf : List ℕ) → number_of reason ≡ answer_of (refusals asked body) → Gives (record_outcome asked body buf) (Err (For reason)) buf
  unfolding record_outcome
  refused_gives {reason} buf e =
      gives_refused (record_text asked body) buf (sym (answer_before (refusals asked body) _ (number_some reason) (sym e)))

  -- alone, it fits a buffer for the longest line
  pub alone_short : length (text_of true asked body) ≤ longest_line
  alone_short = go (none_or_some (answer_of (refusals asked body)))
    where
      go : (answer_of (refusals asked body) ≡ 0) ⊎ (0 < answer_of (refusals asked body)) → length (text_of true asked body) ≤ longest_line
      go (inl e) = rw (alone_text e) text_short
      go (inr some) = rw (alone_refused refl some) (omega arith)

  -- what was put alone, where the longest line has room, is the outcome
  pub alone_gives : (refused : Option Reason) {n : ℕ} {buf after : List ℕ} → longest_line ≤ length buf → answer_as refused ≡ answer_of (refusals asked body) → Put buf 0 (text_of true asked body) n after → Gives (record_outcome asked body buf) (given refused n) after
  alone_gives None {buf = buf} long e put =
      gives_as (outcome_text (sym e) buf) (text_printed (record_text asked body) (omega (arith, long, text_short)) (put_as (alone_text (sym e)) put))
  alone_gives (Some reason) {n = n} {buf = buf} {after = after} long e put =
      let none : Put buf 0 [] n after = put_as (alone_refused e (number_some reason)) put in
      rw (none.text, write_none buf 0) (refused_gives buf e)

-- the line of an accepted record from the parts that the code has of it
pub record Shows (asked : Asked) (body : List ℕ) (mode : Mode) (arm : Arm) (plan : Plan) (front : Front) (rest : List ℕ) : Type 0 where
  pub few : count_of (fields_by front rest) ≤ 4
  pub ordered : from_the_left (items_at mode arm (instruction_by front rest) plan) ≡ true
  pub text : (alone : Bool) → text_of alone asked body ≡ line_text (line_by mode arm plan (instruction_by front rest)) ++ when (not alone) newline

pub accepted_shows :
    {asked : Asked} {body : List ℕ} {arm : Arm} {plan : Plan} {front : Front} {rest : List ℕ} {mode : Mode} →
    Accepts asked body arm plan front rest → mode ≡ mode_of asked → Shows asked body mode arm plan front rest
accepted_shows {asked} {body} {front = front} {rest} {mode} k m =
    let u = unrefused asked body k.answer in
    let r : record_of asked.version body ≡ instruction_by front rest = rw (k.fields, k.start) in
    record {
      few = subst (λ (f : List ℕ). count_of f ≤ 4) k.fields u.few;
      ordered = plan_from_the_left mode u k.own_arm k.own_plan r;
      text = accepted_text asked body k.answer k.own_arm k.own_plan m r;
    }

-- what stands in front after a put at the start
pub put_front : {xs : List ℕ} {t : List ℕ} {r : ℕ} {ys : List ℕ} → length t ≤ length xs → Put xs 0 t r ys → take r ys ≡ t
put_front {xs} {t} fits put = rw (put.text, put.next) (take-write xs 0 t (rw zero-add fits))
