-- `numerals::decimals::put_decimal` meets its contract: one digit, or those of the tenth part and then the last.
-- Assumes nothing.
use mathlib.Core.Path.{sym}
use mathlib.Core.List.{[], ◌∷◌}
use native.Mathlib.Omega.{arith}
use Prim.Native.Nat.{◌+◌, ◌%◌}
use Rattle.text.proofs.Putting.{first, rest, and_then, room_as, put_as}
use Rattle.numerals.proofs.Tens.{decimal_one, decimal_more}
use Rattle.numerals.proofs.decimals.+put_decimal.Goals as goal

pub put_byte-requires : goal.put_byte-requires
put_byte-requires t c = room_as (decimal_one c.args.n c.if-n-lt10.true) c.requires

pub returns-then-n-lt10 : goal.returns-then-n-lt10
returns-then-n-lt10 t c = put_as (sym (decimal_one c.args.n c.if-n-lt10.true)) c.put_byte.ensures

pub put_decimal-next-requires : goal.put_decimal-next-requires
put_decimal-next-requires t c =
    (omega (arith, c.decreases, c.if-n-lt10.false), first ((48 + c.args.n % 10) ∷ []) (room_as (decimal_more c.args.n c.if-n-lt10.false) c.requires))

pub put_byte-requires-2 : goal.put_byte-requires-2
put_byte-requires-2 t c = rest (room_as (decimal_more c.args.n c.if-n-lt10.false) c.requires) c.put_decimal-next.ensures

pub returns : goal.returns
returns t c =
    let more = decimal_more c.args.n c.if-n-lt10.false in
    put_as (sym more) (and_then (room_as more c.requires) c.put_decimal-next.ensures c.put_byte-2.ensures)
