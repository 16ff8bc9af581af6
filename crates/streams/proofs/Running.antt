-- A whole run: what its passes hand out, joined, is the definition's text of the whole input; and every sequence of reads has one.
-- Assumes nothing.
use mathlib.Core.Path.{◌≡◌, refl, sym, ap, ◌∙◌}
use mathlib.Core.Bool.{Bool, true, false, cond}
use mathlib.Core.List.{List, [], ◌∷◌, ◌++◌, append_assoc, append-nil}
use mathlib.Core.Logic.{◌⊎◌, inl, inr}
use Prim.Native.Nat.{ℕ, zero, suc, ◌≤◌, ◌<◌}
use native.Mathlib.Omega.{arith}
use lib.Dec.{ltb}
use lib.ListN.{length, take, drop, length-drop}
use lib.Seq.{drop-append-le}
use Rattle.text.specs.Choice.{when}
use Rattle.text.specs.Words.{join}
use Rattle.answers.proofs.Unique.{none_or_some}
use Rattle.bodies.specs.WellFormed.{Bytes}
use Rattle.records.specs.declared.Asked.{Asked}
use Rattle.listings.specs.Lines.{cut_line, listing_text}
use Rattle.streams.specs.Stream.{stepped, Alive, cut_at, Streams}
use Rattle.streams.specs.Code.{remaining}
use Rattle.streams.specs.Stream.Streams.{read, step, end}
use Rattle.streams.specs.Pass.{Steps, next_at, last_line, Rests, Follows, Passes}
use Rattle.streams.specs.Pass.Steps.{none as no_step, more as step_more}
use Rattle.streams.specs.Pass.Follows.{full as is_full, rests}
use Rattle.streams.specs.Runs.{Runs}
use Rattle.streams.specs.Runs.Runs.{full as run_full, more as run_more, none as run_none, stop}
use Rattle.streams.specs.declared.Passed.{Passed}
use Rattle.streams.specs.declared.Stage.{Stage}
use Rattle.streams.specs.declared.Stage.TheVariants.{Version, Frames, Skip, Done}
use Rattle.streams.specs.declared.Next.{Next}
use Rattle.streams.specs.declared.Next.TheVariants.{Read, Whole, Cut}
use Rattle.streams.proofs.Stepping.{bounded}
use Rattle.streams.proofs.Streaming.{step_sound, bytes_drop}

-- steps, and what comes after them
pub steps_stream : {asked : Asked} {stage : Stage} {held says : List ℕ} {now : Stage} {left written : List ℕ} {reads : List (List ℕ)} {records refused : ℕ} → Steps asked stage held says now left records refused → Streams asked now left reads written → Streams asked stage held reads (says ++ written)
steps_stream no_step s = s
steps_stream {asked} {written = written} (step_more {says = before} {now = now} {left = left} m) s =
    rw (append_assoc before (stepped asked now left).says written) (steps_stream m (step s))

-- steps, until none uses any byte
record Settled (asked : Asked) (stage : Stage) (held : List ℕ) : Type 0 where
  says : List ℕ
  now : Stage
  left : List ℕ
  records : ℕ
  refused : ℕ
  taken : Steps asked stage held says now left records refused
  pub alive : Alive now
  unused : (stepped asked now left).used ≡ 0

settle : {asked : Asked} {stage : Stage} {held says : List ℕ} {now : Stage} {left : List ℕ} {records refused : ℕ} (k : ℕ) → length left ≤ k → Alive now → Steps asked stage held says now left records refused → Settled asked stage held
settle {asked} {now = now} {left} zero h alive s =
    record {
      says = _;
      now = now;
      left = left;
      records = _;
      refused = _;
      taken = s;
      alive = alive;
      unused = omega (arith, h, (bounded asked now left alive).uses);
    }
settle {asked} {stage} {held} {says} {now} {left} (suc k) h alive s =
    go (none_or_some (stepped asked now left).used)
    (λ (some : 0 < (stepped asked now left).used).
    settle {says = says ++ (stepped asked now left).says} k (omega (arith, h, some, length-drop (stepped asked now left).used left)) (bounded asked now left alive).alive (step_more s))
  where
    go : ((stepped asked now left).used ≡ 0) ⊎ (0 < (stepped asked now left).used) → (0 < (stepped asked now left).used → Settled asked stage held) → Settled asked stage held
    go (inl e) on =
        record { says = _; now = now; left = left; records = _; refused = _; taken = s; alive = alive; unused = e }
    go (inr some) on = on some

-- For every sequence of reads there is such a stream.
pub record Streamed (asked : Asked) (stage : Stage) (held : List ℕ) (reads : List (List ℕ)) : Type 0 where
  pub written : List ℕ
  pub streams : Streams asked stage held reads written

pub streams_exist : (asked : Asked) (stage : Stage) (held : List ℕ) (reads : List (List ℕ)) → Alive stage → Streamed asked stage held reads
streams_exist asked stage held [] alive =
    let s : Settled asked stage held = settle (length held) (omega arith) alive no_step in
    record { written = _; streams = steps_stream s.taken (end s.unused) }
streams_exist asked stage held (bytes ∷ reads) alive =
    let s : Settled asked stage held = settle (length held) (omega arith) alive no_step in
    let rest : Streamed asked s.now (s.left ++ bytes) reads = streams_exist asked s.now (s.left ++ bytes) reads s.alive in
    record { written = _; streams = steps_stream s.taken (read rest.streams) }

-- what steps keep of what is still to be said, with more bytes to come
pub record Carried (asked : Asked) (stage : Stage) (held says : List ℕ) (now : Stage) (left ys : List ℕ) : Type 0 where
  pub said : remaining asked stage (held ++ ys) ≡ says ++ remaining asked now (left ++ ys)
  pub small : Bytes (left ++ ys)
  pub alive : Alive now

pub carried : {asked : Asked} {stage : Stage} {held says : List ℕ} {now : Stage} {left : List ℕ} {records refused : ℕ} (ys : List ℕ) → Alive stage → Bytes (held ++ ys) → Steps asked stage held says now left records refused → Carried asked stage held says now left ys
carried ys alive small no_step = record { said = refl; small = small; alive = alive }
carried {asked} {stage} {held} ys alive small (step_more {says = before} {now = now} {left = left} m) =
    let so_far = carried ys alive small m in
    let t = stepped asked now left in
    let bound = bounded asked now left so_far.alive in
    let after = drop-append-le t.used left ys bound.uses in
    record {
      said =
          so_far.said
          ∙ ap (λ (u : List ℕ). before ++ u) ((step_sound asked now left so_far.alive).keeps ys so_far.small)
          ∙ sym (append_assoc before t.says (remaining asked t.stage (drop t.used left ++ ys)));
      small = rw (← after) (bytes_drop (left ++ ys) t.used so_far.small);
      alive = bound.alive;
    }

-- the last line, where the input has ended
last_cut : (stage : Stage) (held : ℕ) → last_line (next_at true stage held) ≡ when (cut_at stage held) cut_line
unfolding last_line
last_cut Version held = refl
last_cut (Frames version) held = go (ltb 0 held)
  where
    go : (b : Bool) → last_line (cond b Cut Whole) ≡ when b cut_line
    go true = refl
    go false = refl
last_cut (Skip left size version) held = refl
last_cut Done held = refl

-- the last line is what was still to be said
last_said : (asked : Asked) (ended : Bool) (stage : Stage) (held : List ℕ) (reads : List (List ℕ)) {next : Next} → Alive stage → (ended ≡ true → reads ≡ []) → (next ≡ Read → ⊥) → Rests asked ended stage held next → last_line next ≡ remaining asked stage (held ++ join reads)
unfolding remaining last_line
last_said asked true stage held reads alive none go_on r =
    ap last_line r.next_is
    ∙ last_cut stage (length held)
    ∙ sym ((step_sound asked stage held alive).ends r.unused)
    ∙ ap (remaining asked stage) (sym (append-nil held) ∙ ap (λ (rs : List (List ℕ)). held ++ join rs) (sym (none refl)))
last_said asked false Version held reads alive none go_on r = absurd (go_on r.next_is)
last_said asked false (Frames version) held reads alive none go_on r = absurd (go_on r.next_is)
last_said asked false (Skip left size version) held reads alive none go_on r = absurd (go_on r.next_is)
last_said asked false Done held reads alive none go_on r = ap last_line r.next_is

-- a pass, and what comes after it
module _ {asked : Asked} {stage : Stage} {held : List ℕ} {ended : Bool} {r : Passed Stage} {after : List ℕ} (p : Passes asked stage held ended r after) where
  silent : {next : Next} → r.next ≡ next → last_line next ≡ [] → take r.out after ≡ p.says
  silent e n = p.text ∙ ap (λ (u : List ℕ). p.says ++ u) (ap last_line e ∙ n) ∙ append-nil p.says

  module _ (ys : List ℕ) (alive : Alive stage) (small : Bytes (held ++ ys)) where
    passed_on : Carried asked stage held p.says r.stage (drop r.used held) ys
    passed_on = carried ys alive small p.steps

    goes_on : {written : List ℕ} → take r.out after ≡ p.says → written ≡ remaining asked r.stage (drop r.used held ++ ys) → take r.out after ++ written ≡ remaining asked stage (held ++ ys)
    goes_on says e = rw (says, e) (sym passed_on.said)

run_from : {asked : Asked} {ended : Bool} {stage : Stage} {held : List ℕ} {reads : List (List ℕ)} {written : List ℕ} {records refused used : ℕ} {final : Stage} {last : Next} → Alive stage → (ended ≡ true → reads ≡ []) → Bytes (held ++ join reads) → Runs asked ended stage held reads written records refused used final last → written ≡ remaining asked stage (held ++ join reads)
unfolding last_line
run_from {reads = reads} alive none small (run_full p e s) =
    let c = passed_on p (join reads) alive small in
    goes_on p (join reads) alive small (silent p e refl) (run_from c.alive none c.small s)
run_from {held = held} alive none small (run_more {bytes = bytes} {reads = reads} {r = r} p e s) =
    let c = passed_on p (bytes ++ join reads) alive small in
    let same = append_assoc (drop r.used held) bytes (join reads) in
    goes_on p (bytes ++ join reads) alive small (silent p e refl)
    (rw (← same) (run_from c.alive (λ z. absurd (let o : ◌≡◌ {A = ℕ} 0 1 = cc in omega arith)) (rw same c.small) s))
run_from alive none small (run_none p e s) =
    let c = passed_on p [] alive small in
    goes_on p [] alive small (silent p e refl) (run_from c.alive (λ z. refl) c.small s)
run_from {asked} {ended} {stage} {held} {reads} alive none small (stop {r = r} p not_full not-read) =
    let c = passed_on p (join reads) alive small in
    p.text ∙ ap (λ (u : List ℕ). p.says ++ u) (said p.follows) ∙ sym c.said
  where
    said : Follows asked ended r.stage (drop r.used held) r.used r.next → last_line r.next ≡ remaining asked r.stage (drop r.used held ++ join reads)
    said (is_full e some) = absurd (not_full e)
    said (rests f) = last_said asked ended r.stage (drop r.used held) reads p.alive none not-read f

-- For every run, over every sequence of reads, what is handed out is the definition's text of the whole.
pub run_text : (asked : Asked) → {reads : List (List ℕ)} {written : List ℕ} {records refused used : ℕ} {final : Stage} {last : Next} → Bytes (join reads) → Runs asked false Version [] reads written records refused used final last → written ≡ listing_text asked (join reads)
unfolding remaining
run_text asked small s = run_from tt (λ z. absurd (let o : ◌≡◌ {A = ℕ} 0 1 = cc in omega arith)) small s
