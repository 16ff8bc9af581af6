-- `lines::place::put_places` meets its contract, by the invariant.
-- Assumes nothing.
use mathlib.Core.Path.{ap}
use mathlib.Core.Bool.{not}
use Rattle.text.proofs.Putting.{first, left_next, left_none, left_as}
use Rattle.lines.proofs.Places.{items_shown, items_end}
use Rattle.lines.proofs.FromTheLeft.{items_none}
use Rattle.lines.proofs.place.put_places.Goals as goal

pub returns-then-not-shows_something : goal.returns-then-not-shows_something
returns-then-not-shows_something c =
    left_none
    (left_as
    (items_none c.args.mode c.args.arm _ c.args.plan c.requires.plan_value c.loop-k.k c.loop-k-test.true (c.shows_something.ensures c.args.mode c.args.arm) (ap not c.if-not-shows_something.true))
    c.loop-k.invariant)

pub put_separator-next-requires : goal.put_separator-next-requires
put_separator-next-requires c =
    let one = left_as
    (items_shown c.args.mode c.args.arm _ c.args.plan c.loop-k.k c.loop-k-test.true (c.shows_something.ensures c.args.mode c.args.arm) (ap not c.if-not-shows_something.false))
    c.loop-k.invariant in
    first _ one.room

pub put_place-next-requires-clause-room : goal.put_place-next-requires-clause-room
put_place-next-requires-clause-room c =
    let one = left_as
    (items_shown c.args.mode c.args.arm _ c.args.plan c.loop-k.k c.loop-k-test.true (c.shows_something.ensures c.args.mode c.args.arm) (ap not c.if-not-shows_something.false))
    c.loop-k.invariant in
    first _ (left_next one c.put_separator-next.ensures).room

pub loop-k-preserved : goal.loop-k-preserved
loop-k-preserved c =
    let one = left_as
    (items_shown c.args.mode c.args.arm _ c.args.plan c.loop-k.k c.loop-k-test.true (c.shows_something.ensures c.args.mode c.args.arm) (ap not c.if-not-shows_something.false))
    c.loop-k.invariant in
    left_next (left_next one c.put_separator-next.ensures) c.put_place-next.ensures

pub returns : goal.returns
returns c = left_none (left_as (items_end c.args.mode c.args.arm _ c.args.plan c.loop-k.k c.loop-k-test.false) c.loop-k.invariant)
