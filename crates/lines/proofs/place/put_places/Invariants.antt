-- `lines::place::put_places` meets its contract. The loop's invariant: what the places from k on show is all that is left to be put.
-- Assumes nothing.
use Rattle.text.proofs.Putting.{Left}
use Rattle.bodies.specs.Code.{instruction_by}
use Rattle.places.specs.Places.{items_at}
use Rattle.lines.specs.Text.{items_text}
use Rattle.lines.proofs.Places.{items_from}
use Rattle.lines.proofs.place.put_places.Given as goal

abbrev pub invariant-loop-k : goal.invariant-loop-k
invariant-loop-k l =
    let items = items_at l.mode l.arm (instruction_by l.body.front l.body.rest.now) l.fn.plan in
    Left l.initial.buf l.at (items_text items) l.buf l.next (items_from l.k items)
