-- `listings::walk::put_next` meets its contract: the record of what is whole, or the end.
-- Assumes nothing.
use mathlib.Core.Path.{sym, ◌∙◌}
use Rattle.text.proofs.Putting.{room_as, put_as}
use Rattle.listings.proofs.Fronts.{whole_of, cut_of}
use Rattle.listings.proofs.walk.put_next.Goals as goal

pub put_record-placed-requires : goal.put_record-placed-requires
put_record-placed-requires c = let a = c.args in let w = whole_of a.alone a.asked a.bytes.now a.at c.requires.at_in_bounds (sym c.stands_at.ensures ∙ c.in-Some.is) in room_as (sym w.text) c.requires.room

pub put_bytes-requires : goal.put_bytes-requires
put_bytes-requires c = let a = c.args in
    room_as (sym (cut_of a.alone a.asked a.bytes.now a.at c.requires.at_in_bounds (sym c.stands_at.ensures ∙ c.in-None.is)).text) c.requires.room

pub returns-in-Some : goal.returns-in-Some
returns-in-Some c = let a = c.args in
    let w = whole_of a.alone a.asked a.bytes.now a.at c.requires.at_in_bounds (sym c.stands_at.ensures ∙ c.in-Some.is) in
    let r = c.put_record-placed.ensures in
    record { place = w.to; put = put_as w.text r.put; answer = λ q. r.answer ∙ w.answer q }

pub returns-in-None : goal.returns-in-None
returns-in-None c = let a = c.args in
    let w = cut_of a.alone a.asked a.bytes.now a.at c.requires.at_in_bounds (sym c.stands_at.ensures ∙ c.in-None.is) in
    record { place = w.to; put = put_as w.text c.put_bytes.ensures; answer = λ q. cc }
