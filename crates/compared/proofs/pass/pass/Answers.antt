use mathlib.Core.Path.{◌≡◌, refl}
use Prim.Native.Nat.{ℕ}
use native.Mathlib.Omega.{arith}
use Rattle.compared.specs.declared.Next.TheVariants.{On}
use Rattle.compared.proofs.Stepping.{steps_held}
use Rattle.compared.proofs.Passing.{going_start, going_on, passes_full, passes_step}
use Rattle.compared.proofs.pass.pass.Goals as goal
use Rattle.compared.proofs.pass.pass.Goals.{in-On, in_default}

pub loop-text-init : goal.loop-text-init
loop-text-init c = (going_start c.args.asked c.args.stage c.args.first.now c.args.second.now c.args.first_ended c.args.second_ended c.args.text.now, refl)

pub loop-text-preserved : goal.loop-text-preserved
loop-text-preserved c =
    let on : c.step-passed.result.next ≡ On = elim c.match-matches.branch [
      | in-On w ↦ w.in-On.is
      | in_default w ↦ absurd (let e = w.matches-is in let f = c.if-not-matches.false in let z : ◌≡◌ {A = ℕ} 0 1 = cc in omega (arith, z))
    ] in
    (going_on c.loop-text.invariant.0 (steps_held c.new.ensures c.new-in-loop-text.ensures c.step-passed.ensures) (omega (arith, c.loop-text-test.true)) on, on)

pub returns-then-not-matches : goal.returns-then-not-matches
returns-then-not-matches c = passes_step c.loop-text.invariant.0 (steps_held c.new.ensures c.new-in-loop-text.ensures c.step-passed.ensures) (omega (arith, c.loop-text-test.true))

pub returns : goal.returns
returns c = passes_full c.loop-text.invariant.0 c.loop-text.invariant.1 c.requires.longest_event_in_bounds (omega (arith, c.loop-text-test.false))
