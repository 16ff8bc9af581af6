-- What the laws of a run cite, and no promise: what a pass of `located` leaves of the bytes that are held.
-- Assumes nothing.
use mathlib.Core.Path.{◌≡◌, sym, ap, ◌∙◌}
use mathlib.Core.Bool.{Bool}
use mathlib.Core.List.{List}
use Prim.Native.Nat.{ℕ, ◌-◌, ◌<◌}
use native.Mathlib.Omega.{arith}
use lib.ListN.{length, length-drop}
use Rattle.records.specs.declared.Asked.{Asked}
use Rattle.streams.specs.declared.Next.{Next}
use Rattle.streams.specs.declared.Next.TheVariants.{Read, Unknown}
use Rattle.located.specs.Pass.{longest_frame, Unused, next_at, Follows, Passes}
use Rattle.located.specs.Pass.Follows.{full, rests}
use Rattle.located.specs.declared.Stage.{Stage}
use Rattle.located.specs.declared.Stage.TheVariants.{Version, Frames, Done}
use Rattle.streams.specs.declared.Passed.{Passed}

unused_few : (ended : Bool) (stage : Stage) (held : List ℕ) {next : Next} → next ≡ next_at ended stage (length held) → next ≡ Read → Unused stage held → length held < longest_frame
unused_few ended Version held by read unused = omega (arith, ap length unused)
unused_few ended (Frames number offset version) held by read unused = unused.1
unused_few ended Done held by read unused = absurd (let same : Unknown ≡ Read = sym by ∙ read in let o : ◌≡◌ {A = ℕ} 0 1 = cc in omega (arith, o))

-- where more is to be read, no whole frame is held
waits_few : {ended : Bool} {stage : Stage} {held : List ℕ} {used : ℕ} {next : Next} → Follows ended stage held used next → next ≡ Read → length held < longest_frame
waits_few (full e some) read = absurd (let z : ◌≡◌ {A = ℕ} 0 1 = cc in omega (arith, z))
waits_few {ended} {stage} {held} (rests by unused) read = unused_few ended stage held by read unused

pub few_held : {asked : Asked} {stage : Stage} {held : List ℕ} {ended : Bool} {r : Passed Stage} {after : List ℕ} → Passes asked stage held ended r after → r.next ≡ Read → length held - r.used < longest_frame
few_held {held = held} {r = r} p read = omega (arith, waits_few p.follows read, length-drop r.used held)
