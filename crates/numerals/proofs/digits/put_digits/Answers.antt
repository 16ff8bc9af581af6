use mathlib.Core.Path.{refl, ◌∙◌}
use native.Mathlib.Omega.{arith}
use lib.ListN.{length-set}
use Rattle.numerals.proofs.Places.{length_digits, digits_last, put_digits_done}
use Rattle.numerals.proofs.digits.put_digits.Goals as goal

pub loop-i-init : goal.loop-i-init
loop-i-init c = record { room = omega (arith, length_digits c.args.k c.args.v); written = refl }

pub loop-i-preserved : goal.loop-i-preserved
loop-i-preserved c =
    let l = c.loop-i in
    record {
      room = rw length-set l.invariant.room;
      written = rw c.digit.ensures (digits_last l.buf c.args.at l.i l.left c.loop-i-test.true (omega arith)) ∙ l.invariant.written;
    }

pub returns : goal.returns
returns c = put_digits_done c.args.k c.args.v c.loop-i.i c.loop-i.left c.loop-i-test.false c.loop-i.invariant.written
