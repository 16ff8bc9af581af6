-- `records::put::judge` meets its contract: what is asked comes first, a body without a rest is too short, and then its fields are judged.
-- Assumes nothing.
use mathlib.Core.Path.{refl, sym}
use native.Mathlib.Omega.{arith}
use Rattle.bodies.proofs.Versions.{front_refused}
use Rattle.arms.proofs.Results.{results_equal as said}
use Rattle.records.proofs.Judging.{version_known, at_mode, at_length, judged_ok, judged_err}
use Rattle.records.proofs.put.judge.Goals as goal

pub returns-then-asked_refused-clause-err : goal.returns-then-asked_refused-clause-err
returns-then-asked_refused-clause-err c = sym (at_mode c.args.asked c.args.body.now refl (said c.asked_refused.ensures c.if-asked_refused.true))

pub rest_at-start-requires : goal.rest_at-start-requires
rest_at-start-requires c = version_known c.args.asked (said c.asked_refused.ensures c.if-asked_refused.false)

pub returns-then-body-start-clause-err : goal.returns-then-body-start-clause-err
returns-then-body-start-clause-err c =
    let short = front_refused c.args.asked.version c.args.body.now (omega (arith, c.rest_at-start.ensures)) in
    sym (at_length c.args.asked c.args.body.now refl (said c.asked_refused.ensures c.if-asked_refused.false) short)

pub returns-clause-ok : goal.returns-clause-ok
returns-clause-ok c =
    judged_ok c.args.asked c.args.body.now (said c.asked_refused.ensures c.if-asked_refused.false) c.rest_at-start.ensures c.if-body-start.false
    c.front_of.ensures _ c.judge_fields.result refl c.judge_fields.ensures.ok

pub returns-clause-err : goal.returns-clause-err
returns-clause-err c =
    judged_err c.args.asked c.args.body.now (said c.asked_refused.ensures c.if-asked_refused.false) c.rest_at-start.ensures c.if-body-start.false
    c.front_of.ensures c.judge_fields.result c.judge_fields.ensures.err
