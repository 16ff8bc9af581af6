-- `located::part::put_head` meets its contract: five puts, one after the other.
-- Assumes nothing.
use Rattle.std.proofs.Common.{◌++◌}
use Rattle.text.specs.Words.{bytes}
use Rattle.text.proofs.Putting.{first, rest, and_then}
use Rattle.answers.specs.Lines.{newline}
use Rattle.numerals.specs.Decimals.{decimal}
use Rattle.located.specs.Parts.{head_line}
use Rattle.located.proofs.part.put_head.Goals as goal

pub put_bytes-next-requires : goal.put_bytes-next-requires
unfolding head_line
put_bytes-next-requires c = first (decimal c.args.number ++ (bytes " at byte " ++ (decimal c.args.offset ++ newline))) c.requires

pub put_decimal-next-requires : goal.put_decimal-next-requires
unfolding head_line
put_decimal-next-requires c = first (bytes " at byte " ++ (decimal c.args.offset ++ newline)) (rest c.requires c.put_bytes-next.ensures)

pub put_bytes-next-requires-2 : goal.put_bytes-next-requires-2
unfolding head_line
put_bytes-next-requires-2 c = first (decimal c.args.offset ++ newline) (rest (rest c.requires c.put_bytes-next.ensures) c.put_decimal-next.ensures)

pub put_decimal-next-requires-2 : goal.put_decimal-next-requires-2
unfolding head_line
put_decimal-next-requires-2 c = first newline (rest (rest (rest c.requires c.put_bytes-next.ensures) c.put_decimal-next.ensures) c.put_bytes-next-2.ensures)

pub put_byte-requires : goal.put_byte-requires
unfolding head_line
put_byte-requires c = rest (rest (rest (rest c.requires c.put_bytes-next.ensures) c.put_decimal-next.ensures) c.put_bytes-next-2.ensures) c.put_decimal-next-2.ensures

pub returns : goal.returns
unfolding head_line
returns c = let r1 = rest c.requires c.put_bytes-next.ensures in
    let r2 = rest r1 c.put_decimal-next.ensures in
    let r3 = rest r2 c.put_bytes-next-2.ensures in
    and_then c.requires c.put_bytes-next.ensures (and_then r1 c.put_decimal-next.ensures (and_then r2 c.put_bytes-next-2.ensures (and_then r3 c.put_decimal-next-2.ensures c.put_byte.ensures)))
