use mathlib.Core.Path.{sym}
use native.Mathlib.Omega.{arith}
use borrow.Author.Count.{below_none}
use Rattle.compared.proofs.SameBytes.{unequal_same, eight_unequal, eight_more, eights_same}
use Rattle.compared.proofs.same.same_eights.Goals as goal

pub overflow_sub-last : goal.overflow_sub-last
overflow_sub-last c = c.requires.in_bounds

pub loop-i-init : goal.loop-i-init
loop-i-init c = (omega arith, below_none _)

pub eight_at-requires : goal.eight_at-requires
eight_at-requires c = omega (arith, c.loop-i-test.true, c.requires.a_len)

pub eight_at-requires-in-loop-i : goal.eight_at-requires-in-loop-i
eight_at-requires-in-loop-i c = omega (arith, c.loop-i-test.true)

pub returns-then-eight_at : goal.returns-then-eight_at
returns-then-eight_at c = sym (unequal_same c.args.a.now c.args.b.now (eight_unequal c.eight_at.ensures c.eight_at-in-loop-i.ensures c.if-eight_at.true))

pub loop-i-preserved : goal.loop-i-preserved
loop-i-preserved c = (omega arith, eight_more c.eight_at.ensures c.eight_at-in-loop-i.ensures c.if-eight_at.false c.loop-i.invariant.1)

pub eight_at-requires-2 : goal.eight_at-requires-2
eight_at-requires-2 c = omega (arith, c.requires.a_len, c.requires.in_bounds)

pub eight_at-requires-3 : goal.eight_at-requires-3
eight_at-requires-3 c = omega (arith, c.requires.in_bounds)

pub returns : goal.returns
returns c = eights_same c.eight_at-2.ensures c.eight_at-3.ensures c.requires.a_len (omega (arith, c.requires.a_len, c.requires.in_bounds)) (λ k l. c.loop-i.invariant.1 k (omega (arith, l, c.loop-i-test.false)))
