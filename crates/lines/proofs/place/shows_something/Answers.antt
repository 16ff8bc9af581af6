-- `lines::place::shows_something` meets its contract, case by case.
-- Assumes nothing.
use mathlib.Core.Path.{sym, ap, ◌∙◌}
use mathlib.Core.Logic.{inl, inr}
use lib.Dec.{ltb}
use Rattle.bodies.specs.Code.{fields_by, instruction_by}
use Rattle.lines.proofs.Places.{shows_nothing, shows_register, shows_branch, shows_stored}
use Rattle.lines.proofs.place.shows_something.Goals as goal

pub returns-in-Nothing : goal.returns-in-Nothing
returns-in-Nothing c = λ mode arm. sym (shows_nothing mode arm (instruction_by c.args.body.now.front c.args.body.now.rest.now) c.in-Nothing.is)

pub returns-in-Register : goal.returns-in-Register
returns-in-Register c =
    λ mode arm.
    elim c.in-Register.is [
      | inl register ↦ sym (shows_register mode arm (instruction_by c.args.body.now.front c.args.body.now.rest.now) register.1)
      | inr branch ↦ sym (shows_branch mode arm (instruction_by c.args.body.now.front c.args.body.now.rest.now) branch)
    ]

pub returns-in-Operand : goal.returns-in-Operand
returns-in-Operand c = λ mode arm. ap (ltb c.in-Operand.k) c.count.ensures ∙ sym (shows_stored mode arm c.args.body.now.front.start (fields_by c.args.body.now.front c.args.body.now.rest.now) c.requires.rest_bound c.in-Operand.is)
