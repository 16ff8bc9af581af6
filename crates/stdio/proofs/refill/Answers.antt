-- `stdio::refill` meets its contract: the bytes that are held stand in front, before those that come.
-- Assumes nothing.
use Rattle.std.proofs.Common.{◌-◌, List, ℕ, ap, ◌∙◌, arith, length, take}
use borrow.Rule.Slice.PartMut.{take_put}
use Rattle.stdio.proofs.Between.{moved}
use Rattle.stdio.proofs.refill.Goals as goal

pub returns-in_err-count-clause-input_after : goal.returns-in_err-count-clause-input_after
returns-in_err-count-clause-input_after g c =
    let n = c.args.held.have - c.args.held.from in
    take_put n (length c.copy_within.new.self - n) c.copy_within.new.self c.read.new.buf (omega (arith, c.copy_within.ensures.len, c.requires.room))
    ∙ ap (λ (xs : List ℕ). take n xs) c.copy_within.ensures.after
    ∙ moved c.args.input.now c.args.held.from c.args.held.have c.args.held.ordered c.requires.within

pub returns-clause-input_after : goal.returns-clause-input_after
returns-clause-input_after g c =
    let n = c.args.held.have - c.args.held.from in
    take_put n (length c.copy_within.new.self - n) c.copy_within.new.self c.read.new.buf (omega (arith, c.copy_within.ensures.len, c.requires.room))
    ∙ ap (λ (xs : List ℕ). take n xs) c.copy_within.ensures.after
    ∙ moved c.args.input.now c.args.held.from c.args.held.have c.args.held.ordered c.requires.within
