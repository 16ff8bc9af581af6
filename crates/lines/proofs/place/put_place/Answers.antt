-- `lines::place::put_place` meets its contract: in each case the text is that case's.
-- Assumes nothing.
use mathlib.Core.Path.{sym}
use Rattle.text.proofs.Putting.{room_as, put_as, put_none}
use Rattle.bodies.specs.Code.{fields_by, instruction_by}
use Rattle.lines.proofs.Places.{place_nothing, place_register, place_branch, place_operand}
use Rattle.lines.proofs.place.put_place.Goals as goal

pub put_register-requires : goal.put_register-requires
put_register-requires c = room_as (place_register c.args.mode c.args.arm (instruction_by c.args.body.now.front c.args.body.now.rest.now) c.in-Register.is) c.requires.room

pub put_branch-requires : goal.put_branch-requires
put_branch-requires c = room_as (place_branch c.args.mode c.args.arm (instruction_by c.args.body.now.front c.args.body.now.rest.now) c.in-Branch.is) c.requires.room

pub put_operand-requires : goal.put_operand-requires
put_operand-requires c = room_as (place_operand c.args.mode c.args.arm c.args.body.now.front.start (fields_by c.args.body.now.front c.args.body.now.rest.now) c.requires.rest_bound c.in-Operand.is c.operand_at.ensures) c.requires.room

pub returns-in-Nothing : goal.returns-in-Nothing
returns-in-Nothing c = put_as (sym (place_nothing c.args.mode c.args.arm (instruction_by c.args.body.now.front c.args.body.now.rest.now) c.in-Nothing.is)) put_none

pub returns-in-Register : goal.returns-in-Register
returns-in-Register c = put_as (sym (place_register c.args.mode c.args.arm (instruction_by c.args.body.now.front c.args.body.now.rest.now) c.in-Register.is)) c.put_register.ensures

pub returns-in-Branch : goal.returns-in-Branch
returns-in-Branch c = put_as (sym (place_branch c.args.mode c.args.arm (instruction_by c.args.body.now.front c.args.body.now.rest.now) c.in-Branch.is)) c.put_branch.ensures

pub returns-in-Operand : goal.returns-in-Operand
returns-in-Operand c = put_as (sym (place_operand c.args.mode c.args.arm c.args.body.now.front.start (fields_by c.args.body.now.front c.args.body.now.rest.now) c.requires.rest_bound c.in-Operand.is c.operand_at.ensures)) c.put_operand.ensures
