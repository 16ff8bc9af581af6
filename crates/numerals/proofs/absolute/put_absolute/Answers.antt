-- `numerals::absolute::put_absolute` meets its contract: the figure, and the h behind it.
-- Assumes nothing.
use Rattle.text.proofs.Putting.{first, rest, and_then}
use Rattle.text.specs.Words.{bytes}
use Rattle.numerals.specs.Numerals.{absolute}
use Rattle.numerals.proofs.absolute.put_absolute.Goals as goal

pub put_figure-next-requires : goal.put_figure-next-requires
unfolding absolute
put_figure-next-requires c = record { digit_value = c.requires.digit_value; room = first (bytes "h") c.requires.room }

pub put_byte-requires : goal.put_byte-requires
unfolding absolute
put_byte-requires c = rest c.requires.room c.put_figure-next.ensures

pub returns : goal.returns
unfolding absolute
returns c = and_then c.requires.room c.put_figure-next.ensures c.put_byte.ensures
