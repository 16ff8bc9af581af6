-- `located::part::put_refusal` meets its contract: a refusal has its words, and another record none.
-- Assumes nothing.
use Rattle.std.proofs.Common.{sym, refl, ap, ◌∙◌, arith}
use Rattle.std.specs.Prelude.{Option}
use Rattle.text.proofs.Putting.{put_none, room_as, put_as}
use Rattle.answers.specs.declared.Reason.{Reason}
use Rattle.answers.specs.Lines.{refused_text}
use Rattle.answers.specs.Reasons.{answer_as}
use Rattle.answers.proofs.Numbers.{number_below}
use Rattle.located.specs.Code.{refusal_text}
use Rattle.located.proofs.RecordParts.{refusal_none, refusal_because}
use Rattle.located.proofs.part.put_refusal.Goals as goal

pub put_refusal-requires : goal.put_refusal-requires
put_refusal-requires c =
    let reason = c.in-Some.reason in
    let said = ap (λ (r : Option Reason). refusal_text (answer_as r)) c.in-Some.is ∙ refusal_because reason ∙ ap refused_text (sym c.number.ensures) in
    record { n_bound = omega (arith, number_below reason, c.number.ensures); room = room_as said c.requires }

pub returns-in-None : goal.returns-in-None
returns-in-None c = put_as (sym (ap (λ (r : Option Reason). refusal_text (answer_as r)) c.in-None.is ∙ refusal_none refl)) put_none

pub returns-in-Some : goal.returns-in-Some
returns-in-Some c =
    let reason = c.in-Some.reason in
    let said = ap (λ (r : Option Reason). refusal_text (answer_as r)) c.in-Some.is ∙ refusal_because reason ∙ ap refused_text (sym c.number.ensures) in
    put_as (sym said) c.put_refusal.ensures
