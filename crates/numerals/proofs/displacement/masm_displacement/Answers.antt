-- `numerals::displacement::masm_displacement` meets its contract: the sign, and the numeral of the size behind it.
-- Assumes nothing.
use mathlib.Core.Path.{ap, sym}
use lib.IntN.{nat_abs}
use mir.Syntax.{w32}
use mir.ValLaws.{to_z-of_z}
use Rattle.text.proofs.Putting.{first, rest, and_then, room_as, put_as}
use Rattle.numerals.specs.Numerals.{numeral}
use Rattle.numerals.proofs.Texts.{displacement_by}
use Rattle.numerals.proofs.displacement.masm_displacement.Goals as goal

pub put_sign-next-requires : goal.put_sign-next-requires
put_sign-next-requires c = let d = c.args.disp in
    let e = to_z-of_z w32 d c.ranges.disp in
    first (numeral (nat_abs d)) (room_as (displacement_by e (sym (ap nat_abs e))) c.requires)

pub put_numeral-requires : goal.put_numeral-requires
put_numeral-requires c = let e = to_z-of_z w32 c.args.disp c.ranges.disp in
    rest (room_as (displacement_by e c.size_of.ensures) c.requires) c.put_sign-next.ensures

pub returns : goal.returns
returns c = let is = displacement_by (to_z-of_z w32 c.args.disp c.ranges.disp) c.size_of.ensures in
    put_as (sym is) (and_then (room_as is c.requires) c.put_sign-next.ensures c.put_numeral.ensures)
