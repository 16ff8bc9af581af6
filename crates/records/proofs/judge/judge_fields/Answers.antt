-- `records::judge::judge_fields` meets its contract: at each return, what was tested says which refusal is the first.
-- Assumes nothing.
use mathlib.Core.Path.{ap, ◌∙◌}
use Rattle.answers.specs.Reasons.{number_of}
use Rattle.answers.specs.declared.Reason.{Reason}
use Rattle.names.specs.Opcodes.{arm_of}
use Rattle.bodies.specs.Code.{fields_by}
use Rattle.bodies.specs.Decoding.{instruction_of}
use Rattle.names.specs.declared.Arm.{Arm}
use Rattle.arms.specs.Plans.{plan_of}
use Rattle.arms.proofs.Results.{results_equal as said}
use Rattle.records.specs.Judged.{FieldsAnswer, AcceptsFields}
use Rattle.records.proofs.Judging.{at_body, at_shape, at_size, at_broadcast, at_accepted, few_counted, checked_by, accepts_as, passed_on}
use Rattle.records.proofs.judge.judge_fields.Goals as goal

pub returns-in_err-body-clause-err : goal.returns-in_err-body-clause-err
returns-in_err-body-clause-err c =
    let f = fields_by c.args.front c.args.rest.now in
    let reason = c.in_err-body.field-0.0 in
    passed_on c.from_residual.result (λ (r : Reason). FieldsAnswer f (number_of r)) c.from_residual.ensures.1 (λ asked body m is. at_body asked body is m reason c.in_err-body.ensures.err)

pub returns-then-shape_refused-clause-err : goal.returns-then-shape_refused-clause-err
unfolding instruction_of
returns-then-shape_refused-clause-err c asked body m is =
    let k = checked_by c.in_ok-body.ensures.ok in
    at_shape asked body (is ∙ k.same) m k.no_length k.no_field (c.of-arm.ensures ∙ ap arm_of c.opcode.ensures) (said c.shape_refused.ensures c.if-shape_refused.true)

pub plan_of-plan-requires : goal.plan_of-plan-requires
plan_of-plan-requires c = record { rest_value = (checked_by c.in_ok-body.ensures.ok).no_field }

pub plan_lacks-requires : goal.plan_lacks-requires
plan_lacks-requires c =
    let k = checked_by c.in_ok-body.ensures.ok in
    record { rest_bound = few_counted (fields_by c.in_ok-body.body.front c.in_ok-body.body.rest.now) k.no_field }

pub returns-then-plan_lacks-clause-err : goal.returns-then-plan_lacks-clause-err
unfolding instruction_of
returns-then-plan_lacks-clause-err c asked body m is =
    let k = checked_by c.in_ok-body.ensures.ok in
    at_size asked body (is ∙ k.same) m k.no_length k.no_field (c.of-arm.ensures ∙ ap arm_of c.opcode.ensures)
    (said c.shape_refused.ensures c.if-shape_refused.false) c.plan_of-plan.ensures (said c.plan_lacks.ensures c.if-plan_lacks.true)

pub broadcast_refused-requires-clause-rest_bound : goal.broadcast_refused-requires-clause-rest_bound
broadcast_refused-requires-clause-rest_bound c =
    let k = checked_by c.in_ok-body.ensures.ok in
    few_counted (fields_by c.in_ok-body.body.front c.in_ok-body.body.rest.now) k.no_field

pub returns-then-broadcast_refused-clause-err : goal.returns-then-broadcast_refused-clause-err
unfolding instruction_of
returns-then-broadcast_refused-clause-err c asked body m is =
    let k = checked_by c.in_ok-body.ensures.ok in
    at_broadcast asked body (is ∙ k.same) m k.no_length k.no_field (c.of-arm.ensures ∙ ap arm_of c.opcode.ensures)
    (said c.shape_refused.ensures c.if-shape_refused.false) c.plan_of-plan.ensures
    (said c.plan_lacks.ensures c.if-plan_lacks.false) (said c.broadcast_refused.ensures c.if-broadcast_refused.true)

accepted : (c : goal.Else-broadcast_refused) → AcceptsFields (fields_by c.args.front c.args.rest.now) c.of-arm.result c.plan_of-plan.result
unfolding instruction_of
accepted c =
    let k = checked_by c.in_ok-body.ensures.ok in
    let i = instruction_of (fields_by c.in_ok-body.body.front c.in_ok-body.body.rest.now) in
    let arm = c.of-arm.ensures ∙ ap arm_of c.opcode.ensures in
    accepts_as k.same
    (record {
      answer = λ asked body m is.
          at_accepted asked body is m k.no_length k.no_field arm (said c.shape_refused.ensures c.if-shape_refused.false)
          c.plan_of-plan.ensures (said c.plan_lacks.ensures c.if-plan_lacks.false) (said c.broadcast_refused.ensures c.if-broadcast_refused.false);
      own_arm = arm;
      own_plan = c.plan_of-plan.ensures ∙ ap (λ (a : Arm). plan_of a i) arm;
    })

pub returns-clause-ok : goal.returns-clause-ok
returns-clause-ok c = let e = c.in_ok-body.ensures.ok in (accepted c, e.0, e.1)
