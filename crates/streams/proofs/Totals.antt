-- The counts of a whole run: the listing's whole frames, and those of them that are refused.
-- Assumes nothing.
use mathlib.Core.Path.{◌≡◌, refl, ap, ◌∙◌}
use mathlib.Core.Bool.{Bool, true, false}
use mathlib.Core.List.{List, [], ◌++◌, append_assoc, append-nil}
use Prim.Native.Nat.{ℕ, ◌+◌}
use native.Mathlib.Omega.{arith}
use lib.ListN.{drop}
use Rattle.text.specs.Words.{join}
use Rattle.answers.specs.Refusals.{answer_of}
use Rattle.bodies.specs.WellFormed.{Bytes}
use Rattle.records.specs.declared.Asked.{Asked}
use Rattle.records.specs.Records.{in_version, refusals}
use Rattle.streams.specs.Stream.{Taken, Alive, refused_by}
use Rattle.streams.specs.Pass.{Steps, Rests, Follows}
use Rattle.streams.specs.Pass.Steps.{none as no_step, more as step_more}
use Rattle.streams.specs.Pass.Follows.{full as is_full, rests}
use Rattle.streams.specs.Runs.{Runs}
use Rattle.streams.specs.Runs.Runs.{full as run_full, more as run_more, none as run_none, stop}
use Rattle.streams.specs.Counts.{record_count, refused_count}
use Rattle.streams.specs.declared.Stage.{Stage}
use Rattle.streams.specs.declared.Stage.TheVariants.{Version, Frames, Skip, Done}
use Rattle.streams.specs.declared.Next.{Next}
use Rattle.streams.specs.declared.Next.TheVariants.{Read}
use Rattle.streams.proofs.Running.{carried}
use Rattle.streams.proofs.Counting.{to_count, Counts, step_keeps, records_counted, refused_counted}

-- whole frames, and refused ones, that are still to come from a stage on
abbrev frames_from : Stage → List ℕ → ℕ
frames_from = to_count (λ (version : ℕ) (body : List ℕ). 1)

abbrev refused_from : Asked → Stage → List ℕ → ℕ
refused_from asked = to_count (λ (version : ℕ) (body : List ℕ). refused_by (answer_of (refusals (in_version version asked) body)))

-- what steps count of them
record Tallied (asked : Asked) (stage : Stage) (held : List ℕ) (now : Stage) (left ys : List ℕ) (records refused : ℕ) : Type 0 where
  frames : frames_from stage (held ++ ys) ≡ records + frames_from now (left ++ ys)
  refusals : refused_from asked stage (held ++ ys) ≡ refused + refused_from asked now (left ++ ys)

tallied : {asked : Asked} {stage : Stage} {held says : List ℕ} {now : Stage} {left : List ℕ} {records refused : ℕ} (ys : List ℕ) → Alive stage → Bytes (held ++ ys) → Steps asked stage held says now left records refused → Tallied asked stage held now left ys records refused
tallied ys alive small no_step = record { frames = omega arith; refusals = omega arith }
tallied {asked} {stage} {held} ys alive small (step_more {says = before} {now = now} {left = left} m) =
    let so_far = tallied ys alive small m in
    let c = carried ys alive small m in
    record {
      frames =
          omega (arith, so_far.frames, (step_keeps (records_counted asked) now left c.alive).keeps ys c.small);
      refusals =
          omega (arith, so_far.refusals, (step_keeps (refused_counted asked) now left c.alive).keeps ys c.small);
    }

-- nothing is still to come where a run stops
none_left : {asked : Asked} {f : ℕ → List ℕ → ℕ} {g : Taken → ℕ} → Counts asked f g → (ended : Bool) (stage : Stage) (held : List ℕ) (reads : List (List ℕ)) {next : Next} → Alive stage → (ended ≡ true → reads ≡ []) → (next ≡ Read → ⊥) → Rests asked ended stage held next → to_count f stage (held ++ join reads) ≡ 0
unfolding to_count
none_left {asked} {f} counts true stage held reads alive none go_on r =
    ap (to_count f stage) (ap (λ (rs : List (List ℕ)). held ++ join rs) (none refl) ∙ append-nil held)
    ∙ (step_keeps counts stage held alive).ends r.unused
none_left counts false Version held reads alive none go_on r = absurd (go_on r.next_is)
none_left counts false (Frames version) held reads alive none go_on r = absurd (go_on r.next_is)
none_left counts false (Skip left size version) held reads alive none go_on r = absurd (go_on r.next_is)
none_left counts false Done held reads alive none go_on r = refl

record Counted (asked : Asked) (stage : Stage) (xs : List ℕ) (records refused : ℕ) : Type 0 where
  frames : records ≡ frames_from stage xs
  refusals : refused ≡ refused_from asked stage xs

count_on : {asked : Asked} {stage now : Stage} {held left ys : List ℕ} {a b records refused : ℕ} → Tallied asked stage held now left ys a b → Counted asked now (left ++ ys) records refused → Counted asked stage (held ++ ys) (a + records) (b + refused)
count_on t c = record { frames = omega (arith, t.frames, c.frames); refusals = omega (arith, t.refusals, c.refusals) }

counted_as : {asked : Asked} {stage : Stage} {xs ys : List ℕ} {records refused : ℕ} → xs ≡ ys → Counted asked stage xs records refused → Counted asked stage ys records refused
counted_as {asked} {stage} e c =
    record { frames = c.frames ∙ ap (frames_from stage) e; refusals = c.refusals ∙ ap (refused_from asked stage) e }

count_from : {asked : Asked} {ended : Bool} {stage : Stage} {held : List ℕ} {reads : List (List ℕ)} {written : List ℕ} {records refused used : ℕ} {final : Stage} {last : Next} → Alive stage → (ended ≡ true → reads ≡ []) → Bytes (held ++ join reads) → Runs asked ended stage held reads written records refused used final last → Counted asked stage (held ++ join reads) records refused
count_from {reads = reads} alive none small (run_full p e s) =
    let c = carried (join reads) alive small p.steps in
    count_on (tallied (join reads) alive small p.steps) (count_from c.alive none c.small s)
count_from {held = held} alive none small (run_more {bytes = bytes} {reads = reads} {r = r} p e s) =
    let c = carried (bytes ++ join reads) alive small p.steps in
    let same = append_assoc (drop r.used held) bytes (join reads) in
    count_on (tallied (bytes ++ join reads) alive small p.steps)
    (counted_as same (count_from c.alive (λ z. absurd (let o : ◌≡◌ {A = ℕ} 0 1 = cc in omega arith)) (rw same c.small) s))
count_from alive none small (run_none p e s) =
    let c = carried [] alive small p.steps in
    count_on (tallied [] alive small p.steps) (count_from c.alive (λ z. refl) c.small s)
count_from {asked} {ended} {stage} {held} {reads} alive none small (stop {r = r} p not_full not-read) =
    let t = tallied (join reads) alive small p.steps in
    let rested : Rests asked ended r.stage (drop r.used held) r.next = at_rest p.follows in
    record {
      frames = omega (arith, t.frames, none_left (records_counted asked) ended r.stage (drop r.used held) reads p.alive none not-read rested);
      refusals = omega (arith, t.refusals, none_left (refused_counted asked) ended r.stage (drop r.used held) reads p.alive none not-read rested);
    }
  where
    at_rest : Follows asked ended r.stage (drop r.used held) r.used r.next → Rests asked ended r.stage (drop r.used held) r.next
    at_rest (is_full e some) = absurd (not_full e)
    at_rest (rests f) = f

-- For every run, over every sequence of reads, the counts are those of the listing: its whole frames, and those that are refused.
pub run_counts : (asked : Asked) → {reads : List (List ℕ)} {written : List ℕ} {records refused used : ℕ} {final : Stage} {last : Next} → Bytes (join reads) → Runs asked false Version [] reads written records refused used final last → (records ≡ record_count (join reads)) × (refused ≡ refused_count asked (join reads))
unfolding to_count
run_counts asked small s =
    let c = count_from tt (λ z. absurd (let o : ◌≡◌ {A = ℕ} 0 1 = cc in omega arith)) small s in
    (c.frames, c.refusals)
