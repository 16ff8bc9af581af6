-- The step and the pass of the definitions, by those of any stages.
-- Assumes nothing.
use mathlib.Core.Path.{◌≡◌, refl, sym, ◌∙◌}
use mathlib.Core.Bool.{Bool}
use mathlib.Core.List.{List, [], ◌∷◌}
use Prim.Native.Nat.{ℕ, ◌+◌}
use native.Mathlib.Nat.{zero-add}
use native.Mathlib.Omega.{arith}
use lib.ListN.{length}
use Rattle.lines.specs.Text.{longest_line}
use Rattle.records.specs.declared.Asked.{Asked}
use Rattle.streams.specs.Stream.{stepped, Alive}
use Rattle.streams.specs.Code.{Took}
use Rattle.streams.specs.Pass.{Steps, Unused, Follows, next_at, Passes}
use Rattle.streams.specs.Pass.Steps.{none, more}
use Rattle.streams.specs.Pass.Follows.{full, rests}
use Rattle.streams.specs.Stages.{StepsOn, FollowsOn, PassesOver}
use Rattle.streams.specs.Stages.FollowsOn.{full as full_on, rests as rests_on}
use Rattle.streams.specs.declared.Passed.{Passed}
use Rattle.streams.specs.declared.Stage.{Stage}
use Rattle.streams.specs.declared.Step.{Step}
use Rattle.streams.specs.declared.Next.{Next}
use Rattle.streams.proofs.Stepping.{bounded}

none_of : (xs : List ℕ) → length xs ≡ 0 → xs ≡ []
none_of [] e = refl
none_of (x ∷ xs) e = absurd (omega (arith, e))

-- a step of the definition is a step of the stages
pub step_on : {asked : Asked} {stage : Stage} {held before : List ℕ} {out : ℕ} {r : Step Stage} {after : List ℕ} → Alive stage → Took (stepped asked stage held) before out r after → StepsOn Steps Unused Alive (longest_line + 1) asked stage held before out r after
step_on {asked} {stage} {held} alive t =
    let b = bounded asked stage held alive in
    record {
      says = (stepped asked stage held).says;
      put = t.put;
      goes = rw (t.stage_is, t.used_is, t.records_is, t.refused_is) (rw (← (zero-add (stepped asked stage held).records), ← (zero-add (stepped asked stage held).refused)) (more none));
      uses = omega (arith, t.used_is, b.uses);
      short = b.short;
      refuses = omega (arith, t.refused_is, t.records_is, b.refuses);
      counts = omega (arith, t.records_is, t.used_is, b.counts);
      lives = rw t.stage_is b.alive;
      none = λ e. let u = sym t.used_is ∙ e in (none_of (stepped asked stage held).says (omega (arith, b.said, u)), (u, b.few u));
    }

follows_as : {asked : Asked} {ended : Bool} {stage : Stage} {held : List ℕ} {used : ℕ} {next : Next} → FollowsOn Unused next_at asked ended stage held used next → Follows asked ended stage held used next
follows_as (full_on f u) = full f u
follows_as (rests_on n u) = rests (record { unused = u.0; next_is = n; few = u.1 })

-- a pass over the stages is a pass
pub passes : {asked : Asked} {stage : Stage} {held : List ℕ} {ended : Bool} {r : Passed Stage} {after : List ℕ} → PassesOver Steps Unused Alive next_at asked stage held ended r after → Passes asked stage held ended r after
passes p =
    record { says = p.says; steps = p.goes; text = p.text; fits = p.fits; within = p.within; counted = p.counted; alive = p.lives; follows = follows_as p.follows }
