-- `numerals::numeral::put_figure` meets its contract: two puts, one behind the other.
-- Assumes nothing.
use mathlib.Core.Path.{sym}
use Rattle.text.proofs.Putting.{first, rest, and_then, room_as, put_as}
use Rattle.numerals.proofs.Texts.{figure_by}
use Rattle.numerals.specs.Digits.{digits}
use Rattle.numerals.proofs.numeral.put_figure.Goals as goal

pub put_when-next-requires : goal.put_when-next-requires
put_when-next-requires c = let a = c.args in first (digits a.k a.v) (room_as (figure_by a.k a.v (c.requires.digit_value) c.needs_leading_0.ensures) (c.requires.room))

pub put_digits-requires : goal.put_digits-requires
put_digits-requires c = let a = c.args in rest (room_as (figure_by a.k a.v (c.requires.digit_value) c.needs_leading_0.ensures) (c.requires.room)) (c.put_when-next.ensures)

pub returns : goal.returns
returns c = let a = c.args in
    let is = figure_by a.k a.v (c.requires.digit_value) c.needs_leading_0.ensures in
    put_as (sym is) (and_then (room_as is (c.requires.room)) (c.put_when-next.ensures) (c.put_digits.ensures))
