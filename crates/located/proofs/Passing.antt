-- The step and the pass of the definitions, by those of any stages.
-- Assumes nothing.
use Rattle.std.proofs.Common.{ℕ, Bool, List}
use Rattle.records.specs.declared.Asked.{Asked}
use Rattle.streams.specs.Stages.{StepsOn, FollowsOn, PassesOver}
use Rattle.streams.specs.Stages.FollowsOn.{full as full_on, rests as rests_on}
use Rattle.streams.specs.declared.Next.{Next}
use Rattle.streams.specs.declared.Step.{Step}
use Rattle.streams.specs.declared.Passed.{Passed}
use Rattle.located.specs.declared.Stage.{Stage}
use Rattle.located.specs.Parts.{longest_part}
use Rattle.located.specs.Pass.{Goes, Unused, Follows, next_at, Passes}
use Rattle.located.specs.Pass.Follows.{full, rests}
use Rattle.located.specs.Code.{Steps}

-- a step of the definition is a step of the stages
pub step_on : {asked : Asked} {stage : Stage} {held before : List ℕ} {out : ℕ} {r : Step Stage} {after : List ℕ} → Steps asked stage held before out r after → StepsOn Goes (λ (_ : Asked) (stage : Stage) (held : List ℕ). Unused stage held) (λ (_ : Stage). Unit {0}) longest_part asked stage held before out r after
step_on s =
    record {
      says = s.says;
      put = s.put;
      goes = s.goes;
      uses = s.uses;
      short = s.short;
      refuses = s.refuses;
      counts = s.counts;
      lives = tt;
      none = λ e. let n = s.none e in (n.0, n.1.1);
    }

follows_as : {asked : Asked} {ended : Bool} {stage : Stage} {held : List ℕ} {used : ℕ} {next : Next} → FollowsOn (λ (_ : Asked) (stage : Stage) (held : List ℕ). Unused stage held) next_at asked ended stage held used next → Follows ended stage held used next
follows_as (full_on f u) = full f u
follows_as (rests_on n u) = rests n u

-- a pass over the stages is a pass
pub passes : {asked : Asked} {stage : Stage} {held : List ℕ} {ended : Bool} {r : Passed Stage} {after : List ℕ} → PassesOver Goes (λ (_ : Asked) (stage : Stage) (held : List ℕ). Unused stage held) (λ (_ : Stage). Unit {0}) next_at asked stage held ended r after → Passes asked stage held ended r after
passes p =
    record { says = p.says; goes = p.goes; text = p.text; fits = p.fits; within = p.within; counted = p.counted; follows = follows_as p.follows }
