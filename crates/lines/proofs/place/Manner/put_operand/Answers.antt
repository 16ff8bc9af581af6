-- `lines::place::Manner::put_operand` meets its contract: in each case the text is that case's.
-- Assumes nothing.
use mathlib.Core.Path.{refl, sym}
use Rattle.text.proofs.Putting.{first, rest, and_then, put_none, room_as, put_as}
use Rattle.lines.proofs.Places.{text_absent, text_register, text_number, text_word, text_dword, text_bracket}
use Rattle.lines.proofs.place.Manner.put_operand.Goals as goal

pub put_name-requires : goal.put_name-requires
put_name-requires c = room_as (text_register _ _ _ _ _ _ c.in-Register.is) c.requires

pub put_numeral-requires : goal.put_numeral-requires
put_numeral-requires c = room_as (text_number _ _ _ _ _ _ c.in-Imm.is) c.requires

pub put_front-next-requires : goal.put_front-next-requires
put_front-next-requires c = first _ (room_as (text_word _ _ _ _ _ _ c.in-Absolute16.is) c.requires)

pub put_word-next-requires : goal.put_word-next-requires
put_word-next-requires c = first _ (rest (room_as (text_word _ _ _ _ _ _ c.in-Absolute16.is) c.requires) c.put_front-next.ensures)

pub put_end-requires : goal.put_end-requires
put_end-requires c = rest (rest (room_as (text_word _ _ _ _ _ _ c.in-Absolute16.is) c.requires) c.put_front-next.ensures) c.put_word-next.ensures

pub returns-in-Absolute16 : goal.returns-in-Absolute16
returns-in-Absolute16 c = let by = text_word _ _ _ _ _ _ c.in-Absolute16.is in
    let room = room_as by c.requires in
    put_as (sym by) (and_then room c.put_front-next.ensures (and_then (rest room c.put_front-next.ensures) c.put_word-next.ensures c.put_end.ensures))

pub put_front-next-requires-in-Absolute32 : goal.put_front-next-requires-in-Absolute32
put_front-next-requires-in-Absolute32 c = first _ (room_as (text_dword _ _ _ _ _ _ c.in-Absolute32.is) c.requires)

pub put_dword-next-requires : goal.put_dword-next-requires
put_dword-next-requires c = first _ (rest (room_as (text_dword _ _ _ _ _ _ c.in-Absolute32.is) c.requires) c.put_front-next-in-Absolute32.ensures)

pub put_end-requires-in-Absolute32 : goal.put_end-requires-in-Absolute32
put_end-requires-in-Absolute32 c = rest (rest (room_as (text_dword _ _ _ _ _ _ c.in-Absolute32.is) c.requires) c.put_front-next-in-Absolute32.ensures) c.put_dword-next.ensures

pub returns-in-Absolute32 : goal.returns-in-Absolute32
returns-in-Absolute32 c = let by = text_dword _ _ _ _ _ _ c.in-Absolute32.is in
    let room = room_as by c.requires in
    put_as (sym by) (and_then room c.put_front-next-in-Absolute32.ensures (and_then (rest room c.put_front-next-in-Absolute32.ensures) c.put_dword-next.ensures c.put_end-in-Absolute32.ensures))

pub put_front-next-requires-in-Memory : goal.put_front-next-requires-in-Memory
put_front-next-requires-in-Memory c = first _ (room_as (text_bracket _ _ _ _ _ _ refl c.in-Memory.is) c.requires)

pub put_masked-next-requires : goal.put_masked-next-requires
put_masked-next-requires c = first _ (rest (room_as (text_bracket _ _ _ _ _ _ c.shown_mask-mask.ensures c.in-Memory.is) c.requires) c.put_front-next-in-Memory.ensures)

pub put_broadcast-requires : goal.put_broadcast-requires
put_broadcast-requires c = rest (rest (room_as (text_bracket _ _ _ _ _ _ c.shown_mask-mask.ensures c.in-Memory.is) c.requires) c.put_front-next-in-Memory.ensures) c.put_masked-next.ensures

pub returns-in-Memory : goal.returns-in-Memory
returns-in-Memory c = let by = text_bracket _ _ _ _ _ _ c.shown_mask-mask.ensures c.in-Memory.is in
    let room = room_as by c.requires in
    put_as (sym by) (and_then room c.put_front-next-in-Memory.ensures (and_then (rest room c.put_front-next-in-Memory.ensures) c.put_masked-next.ensures c.put_broadcast.ensures))

pub returns-in-Absent : goal.returns-in-Absent
returns-in-Absent c = put_as (sym (text_absent _ _ _ _ _ _ c.in-Absent.is)) put_none

pub returns-in-Register : goal.returns-in-Register
returns-in-Register c = put_as (sym (text_register _ _ _ _ _ _ c.in-Register.is)) c.put_name.ensures

pub returns-in-Imm : goal.returns-in-Imm
returns-in-Imm c = put_as (sym (text_number _ _ _ _ _ _ c.in-Imm.is)) c.put_numeral.ensures
