-- `numerals::numeral::put_numeral` meets its contract: the figure by its places and top digit, and the h where it is called for.
-- Assumes nothing.
use mathlib.Core.Path.{sym, refl}
use Rattle.text.proofs.Putting.{first, rest, and_then, room_as, put_as}
use Rattle.text.specs.Words.{bytes}
use Rattle.numerals.specs.Numerals.{hex_ambiguous}
use Rattle.text.specs.Choice.{when}
use Rattle.numerals.proofs.Texts.{top_by, numeral_by_lem}
use Rattle.numerals.proofs.numeral.put_numeral.Goals as goal

pub put_figure-next-requires : goal.put_figure-next-requires
put_figure-next-requires c = let t = c.top_of-t.ensures in record { digit_value = top_by t; room = first (when (hex_ambiguous c.args.v) (bytes "h")) (room_as (numeral_by_lem t refl) c.requires) }

pub put_when-requires : goal.put_when-requires
put_when-requires c = rest (room_as (numeral_by_lem c.top_of-t.ensures c.hex_ambiguous.ensures) c.requires) c.put_figure-next.ensures

pub returns : goal.returns
returns c = let is = numeral_by_lem c.top_of-t.ensures c.hex_ambiguous.ensures in
    put_as (sym is) (and_then (room_as is c.requires) c.put_figure-next.ensures c.put_when.ensures)
