-- `listings::walk::walk` meets its contract. The loop's invariant: the text from the place on is all that is left. The measure is what
-- is left of the bytes.
-- Assumes nothing.
use mathlib.Core.Path.{◌≡◌}
use Prim.Native.Nat.{◌-◌}
use lib.ListN.{length}
use Rattle.listings.specs.Code.{place_of}
use Rattle.listings.proofs.Walking.{Walking}
use Rattle.listings.proofs.walk.walk.Given as goal

abbrev pub invariant-loop-at : goal.invariant-loop-at
invariant-loop-at l =
    Walking l.alone l.aside l.asked l.bytes l.initial.text l.at l.total l.refused l.text × (l.place ≡ place_of l.aside l.total)

abbrev pub decreases-loop-at : goal.decreases-loop-at
decreases-loop-at l =
    length l.bytes - l.at
