-- `names::registers::put_register` meets its contract: a word of the table, or stem, number and what closes, or none past the end.
-- Assumes nothing.
use mathlib.Core.Path.{sym}
use mathlib.Core.List.{[], ◌∷◌, ◌++◌}
use Prim.Native.Nat.{◌%◌}
use native.Mathlib.Omega.{arith}
use lib.Dec.{lit<}
use Rattle.text.specs.Words.{bytes}
use Rattle.text.proofs.Putting.{first, rest, and_then, room_as, put_as}
use Rattle.text.proofs.Tables.{no_word_put}
use Rattle.names.specs.Registers.{registers, register_name}
use Rattle.names.specs.Code.{digit, built}
use Rattle.names.proofs.Stems.{number-below, byte-built, byte-lettered, byte_past, byte-tabled}
use Rattle.names.proofs.registers.put_register.Goals as goal

-- the banks 0 to 3
pub put_short-requires : goal.put_short-requires
put_short-requires c = (lit< tt, room_as (byte-tabled c.args.reg c.if-bank-lt4.true) c.requires)

pub returns-then-bank-lt4 : goal.returns-then-bank-lt4
returns-then-bank-lt4 c = put_as (sym (byte-tabled c.args.reg c.if-bank-lt4.true)) c.put_short.ensures

-- st
pub put_numbered-next-requires : goal.put_numbered-next-requires
unfolding built
put_numbered-next-requires c = let name = byte-built c.args.reg c.in-4.is (omega arith) (omega arith) in
    record { number_bound = number-below c.args.reg; room = first (bytes ")") (room_as name c.requires) }

pub put_bytes-requires : goal.put_bytes-requires
unfolding built
put_bytes-requires c = let name = byte-built c.args.reg c.in-4.is (omega arith) (omega arith) in
    rest (room_as name c.requires) c.put_numbered-next.ensures

pub returns-in-4 : goal.returns-in-4
unfolding built
returns-in-4 c = let name = byte-built c.args.reg c.in-4.is (omega arith) (omega arith) in
    put_as (sym name) (and_then (room_as name c.requires) c.put_numbered-next.ensures c.put_bytes.ensures)

-- mm
pub put_numbered-requires : goal.put_numbered-requires
unfolding built
put_numbered-requires c = let name = byte-built c.args.reg c.in-5.is (omega arith) (omega arith) in record { number_bound = number-below c.args.reg; room = room_as name c.requires }

pub returns-in-5 : goal.returns-in-5
unfolding built
returns-in-5 c = let name = byte-built c.args.reg c.in-5.is (omega arith) (omega arith) in
    put_as (sym name) c.put_numbered.ensures

-- k
pub put_numbered-requires-in-9 : goal.put_numbered-requires-in-9
unfolding built
put_numbered-requires-in-9 c = let reg = c.args.reg in let name = byte-built reg c.in-9.is (omega arith) (omega arith) in record { number_bound = number-below reg; room = room_as name c.requires }

pub returns-in-9 : goal.returns-in-9
unfolding built
returns-in-9 c = let name = byte-built c.args.reg c.in-9.is (omega arith) (omega arith) in
    put_as (sym name) c.put_numbered-in-9.ensures

-- xmm, ymm and zmm
pub put_byte-next-requires : goal.put_byte-next-requires
put_byte-next-requires c =
    let name = byte-lettered c.args.reg (omega arith) (omega arith) c.letter.ensures in
    first (bytes "mm" ++ (digit (c.args.reg % 8) ∷ [])) (room_as name c.requires)

pub put_numbered-requires-in-6 : goal.put_numbered-requires-in-6
put_numbered-requires-in-6 c =
    let name = byte-lettered c.args.reg (omega arith) (omega arith) c.letter.ensures in
    record { number_bound = number-below c.args.reg; room = rest (room_as name c.requires) c.put_byte-next.ensures }

pub returns-in-6 : goal.returns-in-6
returns-in-6 c =
    let name = byte-lettered c.args.reg (omega arith) (omega arith) c.letter.ensures in
    put_as (sym name) (and_then (room_as name c.requires) c.put_byte-next.ensures c.put_numbered-in-6.ensures)

-- no register
pub returns-in_default-2 : goal.returns-in_default-2
unfolding register_name
returns-in_default-2 c = no_word_put registers (byte_past c.args.reg (omega arith))
