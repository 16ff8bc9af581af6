-- `bodies::Body::checked` meets its contract: what document 01 alone keeps is not refused; else the two answers are asked in their order.
-- Assumes nothing.
use mathlib.Core.Path.{refl, sym, ◌∙◌}
use Rattle.bodies.specs.Code.{fields_by}
use Rattle.bodies.proofs.Lengths.{whole}
use Rattle.bodies.proofs.OldAccepted.{old_kept_answer, accepted_whole, answer_length, answer_field, answer_neither}
use Rattle.bodies.proofs.Body.checked.Goals as goal

pub invariant_of-result : goal.invariant_of-result
invariant_of-result c =
    let body = fields_by c.args.front c.args.rest.now in
    record { whole = accepted_whole body (old_kept_answer body (sym c.is_old.ensures ∙ c.if-is_old.true)) }

pub returns-then-is_old : goal.returns-then-is_old
returns-then-is_old c =
    record { ok = (refl, refl, old_kept_answer (fields_by c.args.front c.args.rest.now) (sym c.is_old.ensures ∙ c.if-is_old.true)); err = tt }

pub returns-then-length_refused : goal.returns-then-length_refused
returns-then-length_refused c =
    record { ok = tt; err = sym (answer_length (fields_by c.args.front c.args.rest.now) (sym c.length_refused.ensures ∙ c.if-length_refused.true)) }

pub invariant_of-body : goal.invariant_of-body
invariant_of-body c = record { whole = whole (fields_by c.args.front c.args.rest.now) (sym c.length_refused.ensures ∙ c.if-length_refused.false) }

pub returns-then-field_refused : goal.returns-then-field_refused
returns-then-field_refused c =
    let right = sym c.length_refused.ensures ∙ c.if-length_refused.false in
    record { ok = tt; err = sym (answer_field (fields_by c.args.front c.args.rest.now) right (sym c.field_refused.ensures ∙ c.if-field_refused.true)) }

pub returns : goal.returns
returns c =
    let right = sym c.length_refused.ensures ∙ c.if-length_refused.false in
    record { ok = (refl, refl, answer_neither (fields_by c.args.front c.args.rest.now) right (sym c.field_refused.ensures ∙ c.if-field_refused.false)); err = tt }
