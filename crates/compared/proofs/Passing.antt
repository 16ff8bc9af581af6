-- The loop of a pass: what holds after each step, and what it comes to.
-- Assumes nothing.
use mathlib.Core.Path.{◌≡◌, refl}
use mathlib.Core.Bool.{Bool}
use mathlib.Core.List.{List, [], ◌++◌}
use Prim.Native.Nat.{ℕ, ◌+◌, ◌-◌, ◌*◌, ◌≤◌, ◌<◌}
use native.Mathlib.Omega.{arith}
use lib.Dec.{lit≤}
use lib.ListN.{length, drop, length-append}
use Rattle.text.specs.Code.{Room, Put}
use Rattle.text.proofs.Putting.{put_none, put_length, and_then}
use Rattle.records.specs.declared.Asked.{Asked}
use Rattle.records.proofs.Texts.{put_front}
use Rattle.compared.specs.declared.Stage.{Stage}
use Rattle.compared.specs.declared.Next.{Next}
use Rattle.compared.specs.declared.Next.TheVariants.{On}
use Rattle.compared.specs.declared.Passed.{Passed}
use Rattle.compared.specs.Pass.{Goes, Follows, Passes}
use Rattle.compared.specs.Pass.Follows.{goes_on as follows_on, wants_first, wants_second, ends}
use Rattle.compared.specs.Text.{longest_event}
use Rattle.compared.specs.Code.{Steps}
use Rattle.compared.proofs.Going.{goes_none, goes_then}

-- the way so far, and what was said on it at the start of the text
pub record Going (asked : Asked) (start : Stage) (xs ys : List ℕ) (ended ended' : Bool) (before : List ℕ) (stage : Stage) (at at' out : ℕ) (text : List ℕ) : Type 0 where
  pub says : List ℕ
  pub goes : Goes asked ended ended' start xs ys says stage (drop at xs) (drop at' ys)
  pub put : Put before 0 says out text
  pub within : (at ≤ length xs) × (at' ≤ length ys)
  pub said : out ≤ longest_event * (at + at')
  pub fits : out ≤ length before
  pub same_length : length text ≡ length before

pub going_start : (asked : Asked) (stage : Stage) (xs ys : List ℕ) (ended ended' : Bool) (before : List ℕ) → Going asked stage xs ys ended ended' before stage 0 0 0 before
going_start asked stage xs ys ended ended' before =
    record {
      says = [];
      goes = goes_none;
      put = put_none;
      within = (omega arith, omega arith);
      said = lit≤ tt;
      fits = omega arith;
      same_length = refl;
    }

-- what follows a step follows the pass that it ends
follows_all : {ended ended' : Bool} {stage : Stage} {xs ys : List ℕ} {used all : ℕ} {next : Next} → used ≤ all → Follows ended ended' stage xs ys used next → Follows ended ended' stage xs ys all next
follows_all h (follows_on e some) = follows_on e (omega (arith, h, some))
follows_all h (wants_first e o few) = wants_first e o few
follows_all h (wants_second e o few) = wants_second e o few
follows_all h (ends e different d) = ends e different d

-- a step that goes on used some bytes
used_some : {ended ended' : Bool} {stage : Stage} {xs ys : List ℕ} {used : ℕ} {next : Next} → Follows ended ended' stage xs ys used next → next ≡ On → 0 < used
used_some (follows_on e some) on = some
used_some (wants_first e o few) on = absurd (let z : ◌≡◌ {A = ℕ} 0 1 = cc in omega (arith, z))
used_some (wants_second e o few) on = absurd (let z : ◌≡◌ {A = ℕ} 0 1 = cc in omega (arith, z))
used_some (ends e different d) on = absurd (let z : ◌≡◌ {A = ℕ} 0 1 = cc in omega (arith, z))

module _ {asked : Asked} {start : Stage} {xs ys : List ℕ} {ended ended' : Bool} {before : List ℕ} {stage : Stage} {at at' out : ℕ} {text : List ℕ} (g : Going asked start xs ys ended ended' before stage at at' out text) where
  -- the text is full
  pub passes_full : {next : Next} → next ≡ On → longest_event ≤ length before → length text - out < longest_event → Passes asked start xs ys ended ended' (record { stage = stage; first = at; second = at'; out = out; next = next }) text
  passes_full on room none_left =
      record {
        says = g.says;
        goes = g.goes;
        put = put_front (omega (arith, g.put.next, g.fits)) g.put;
        fits = omega (arith, g.fits, g.same_length);
        within = g.within;
        follows = follows_on on (omega (arith, none_left, room, g.same_length, g.said));
      }

  -- one step more
  module _ {r : Passed} {after : List ℕ} (took : Steps asked stage xs ys at at' ended ended' text out r after) (room : out + longest_event ≤ length text) where
    says-room : Room before 0 (g.says ++ took.says)
    says-room =
        record { fits = omega (arith, length-append g.says took.says, g.put.next, took.short, g.same_length, room) }

    both : Put before 0 (g.says ++ took.says) r.out after
    both = and_then says-room g.put took.put

    pub going_on : r.next ≡ On → Going asked start xs ys ended ended' before r.stage r.first r.second r.out after
    going_on on =
        record {
          says = g.says ++ took.says;
          goes = goes_then g.goes took.goes;
          put = both;
          within = took.within;
          said =
              omega (
                arith,
                took.put.next,
                took.short,
                g.said,
                used_some took.follows on,
                took.onward.0,
                took.onward.1,
              );
          fits = omega (arith, both.next, says-room.fits);
          same_length = put_length says-room both;
        }

    pub passes_step : Passes asked start xs ys ended ended' r after
    passes_step =
        record {
          says = g.says ++ took.says;
          goes = goes_then g.goes took.goes;
          put = put_front (omega (arith, says-room.fits)) both;
          fits = omega (arith, both.next, says-room.fits, put_length says-room both);
          within = took.within;
          follows = follows_all (omega arith) took.follows;
        }
