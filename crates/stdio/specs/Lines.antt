-- What the laws of a run cite, and no promise: what a pass of `streams` leaves of the bytes that are held.
-- Assumes nothing.
use mathlib.Core.Path.{◌≡◌}
use mathlib.Core.Bool.{Bool}
use mathlib.Core.List.{List}
use Prim.Native.Nat.{ℕ, ◌+◌, ◌-◌, ◌≤◌, ◌<◌}
use native.Mathlib.Omega.{arith}
use lib.ListN.{length, length-drop}
use Rattle.bodies.specs.Refusals.{longest_body}
use Rattle.records.specs.declared.Asked.{Asked}
use Rattle.streams.specs.Pass.{Follows, Passes}
use Rattle.streams.specs.Pass.Follows.{full, rests}
use Rattle.streams.specs.declared.Stage.{Stage}
use Rattle.streams.specs.declared.Passed.{Passed}
use Rattle.streams.specs.declared.Next.{Next}
use Rattle.streams.specs.declared.Next.TheVariants.{Read}

-- where more is to be read, few bytes are held
waits_few : {asked : Asked} {ended : Bool} {stage : Stage} {held : List ℕ} {used : ℕ} {next : Next} → Follows asked ended stage held used next → next ≡ Read → length held ≤ longest_body + 1
waits_few (full e some) read = absurd (let z : ◌≡◌ {A = ℕ} 0 1 = cc in omega arith)
waits_few (rests r) read = r.few

pub few_held : {asked : Asked} {stage : Stage} {held : List ℕ} {ended : Bool} {r : Passed Stage} {after : List ℕ} → Passes asked stage held ended r after → r.next ≡ Read → length held - r.used < longest_body + 2
few_held {held = held} {r = r} p read = omega (arith, waits_few p.follows read, length-drop r.used held)
