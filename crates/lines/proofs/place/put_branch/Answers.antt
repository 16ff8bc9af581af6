-- `lines::place::put_branch` meets its contract: what is shown is the branch of operand 0, a sum or a target, and nothing else is.
-- Assumes nothing.
use mathlib.Core.Path.{refl, sym, ap, ◌∙◌}
use Rattle.text.proofs.Putting.{room_as, put_as}
use Rattle.bodies.specs.Code.{fields_by, instruction_by}
use Rattle.lines.specs.Items.{shown_text}
use Rattle.lines.proofs.Places.{branch_is, branch_other, text_branch, text_target}
use Rattle.lines.proofs.place.put_branch.Goals as goal

pub put_sum-requires : goal.put_sum-requires
put_sum-requires c = room_as (ap shown_text (branch_is c.args.mode c.args.arm c.args.body.now.front.start (fields_by c.args.body.now.front c.args.body.now.rest.now) refl c.immediate_kind_at.ensures c.immediate_at.ensures refl c.branch_shown-shown.ensures) ∙ text_branch c.in-Branch.is) c.requires

pub put_target-requires : goal.put_target-requires
put_target-requires c = room_as (ap shown_text (branch_is c.args.mode c.args.arm c.args.body.now.front.start (fields_by c.args.body.now.front c.args.body.now.rest.now) refl c.immediate_kind_at.ensures c.immediate_at.ensures refl c.branch_shown-shown.ensures) ∙ text_target c.in-Target.is) c.requires

pub returns-in-Branch : goal.returns-in-Branch
returns-in-Branch c = put_as (sym (ap shown_text (branch_is c.args.mode c.args.arm c.args.body.now.front.start (fields_by c.args.body.now.front c.args.body.now.rest.now) refl c.immediate_kind_at.ensures c.immediate_at.ensures refl c.branch_shown-shown.ensures) ∙ text_branch c.in-Branch.is)) c.put_sum.ensures

pub returns-in-Target : goal.returns-in-Target
returns-in-Target c = put_as (sym (ap shown_text (branch_is c.args.mode c.args.arm c.args.body.now.front.start (fields_by c.args.body.now.front c.args.body.now.rest.now) refl c.immediate_kind_at.ensures c.immediate_at.ensures refl c.branch_shown-shown.ensures) ∙ text_target c.in-Target.is)) c.put_target.ensures

pub returns-in_default : goal.returns-in_default
returns-in_default c = let a = c.args in
    absurd
    (branch_other a.mode a.arm (instruction_by a.body.now.front a.body.now.rest.now)
    (branch_is a.mode a.arm a.body.now.front.start (fields_by a.body.now.front a.body.now.rest.now) refl c.immediate_kind_at.ensures c.immediate_at.ensures refl c.branch_shown-shown.ensures)
    c.in_default.not-Branch c.in_default.not-Target)
