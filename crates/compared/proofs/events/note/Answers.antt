-- `compared::events::note` meets its contract, by what stands on each side: a record on both is named if the bodies differ.
-- Assumes nothing.
use mathlib.Core.Path.{sym, ◌∙◌}
use native.Mathlib.Omega.{arith}
use Rattle.compared.proofs.EventTexts.{first_words, second_words, only_room, notes_none, notes_same, notes_differ, notes_first, notes_second}
use Rattle.compared.proofs.events.note.Goals as goal
use Rattle.compared.proofs.events.note.Goals.{in-None-Some, in-Some-None, in-Some-Some+else-same_bytes}

pub returns-in-None-None : goal.returns-in-None-None
returns-in-None-None c = rw (c.in-None-None.is-0, c.in-None-None.is-1) (notes_none c.args.sides c.args.number c.ranges.named.fits)

pub put_only-out-requires : goal.put_only-out-requires
put_only-out-requires c = record { room = only_room c.args.sides.second c.args.number c.ranges.number.fits second_words c.in-None-Some.body.now (omega arith) c.requires.longest_event_in_bounds }

pub put_only-out-requires-in-Some-None : goal.put_only-out-requires-in-Some-None
put_only-out-requires-in-Some-None c = record { room = only_room c.args.sides.first c.args.number c.ranges.number.fits first_words c.in-Some-None.body.now (omega arith) c.requires.longest_event_in_bounds }

pub returns-then-same_bytes : goal.returns-then-same_bytes
returns-then-same_bytes c = rw (c.in-Some-Some.is-0, c.in-Some-Some.is-1) (notes_same c.args.sides c.args.number c.in-Some-Some.one.now c.in-Some-Some.other.now (sym c.same_bytes.ensures ∙ c.if-same_bytes.true) c.ranges.named.fits)

pub returns : goal.returns
returns c = elim c.match-first.branch [
  | in-None-Some w ↦ rw (w.text-is, w.out-is, w.in-None-Some.is-0, w.in-None-Some.is-1) (notes_second c.args.sides c.args.number c.ranges.number.fits w.in-None-Some.body.now w.put_only-out.ensures c.saturating_add.ensures)
  | in-Some-None w ↦ rw (w.text-is, w.out-is, w.in-Some-None.is-0, w.in-Some-None.is-1) (notes_first c.args.sides c.args.number c.ranges.number.fits w.in-Some-None.body.now w.put_only-out-in-Some-None.ensures c.saturating_add.ensures)
  | in-Some-Some+else-same_bytes w ↦ rw (w.text-is, w.out-is, w.in-Some-Some.is-0, w.in-Some-Some.is-1) (notes_differ c.args.sides c.args.number c.ranges.number.fits w.in-Some-Some.one.now w.in-Some-Some.other.now (sym w.same_bytes.ensures ∙ w.if-same_bytes.false) w.put_differing-out.ensures c.saturating_add.ensures)
]
