-- Every two sequences of reads of bytes have a run: from every stage and with any bytes held there is a pass of one step.
-- Assumes nothing.
use mathlib.Core.Path.{◌≡◌, sym, ap, subst}
use mathlib.Core.Bool.{Bool, true, false}
use mathlib.Core.List.{List, [], ◌∷◌, ◌++◌}
use Prim.Native.Nat.{ℕ, zero, suc, ◌+◌, ◌≤◌, ◌<◌}
use native.Mathlib.Omega.{arith}
use lib.Dec.{lit<}
use lib.ListN.{length, drop, length-append, length-drop}
use lib.Seq.{drop-append-le}
use Rattle.text.specs.Words.{join}
use Rattle.bodies.specs.WellFormed.{Bytes}
use Rattle.records.specs.declared.Asked.{Asked}
use Rattle.streams.proofs.Streaming.{bytes_drop}
use Rattle.compared.specs.declared.Stage.{Stage}
use Rattle.compared.specs.declared.Passed.{Passed}
use Rattle.compared.specs.Pass.{Follows, Passes}
use Rattle.compared.specs.Pass.Follows.{goes_on, wants_first, wants_second, ends}
use Rattle.compared.specs.Runs.{Input, without, Read, all_of, Ran}
use Rattle.compared.specs.Runs.Read.{more, none}
use Rattle.compared.specs.Runs.Runs.{on, first as Reads-first, second as Reads-second, stop}
use Rattle.compared.proofs.Running.{read_all}
use Rattle.compared.proofs.OneStep.{pass}

-- the bytes in front of others are bytes
bytes-front : (xs ys : List ℕ) → Bytes (xs ++ ys) → Bytes xs
bytes-front [] ys small at = lit< tt
bytes-front (x ∷ xs) ys small zero = small 0
bytes-front (x ∷ xs) ys small (suc at) = bytes-front xs ys (λ at. small (suc at)) at

-- so are those that are left after some of those held are used
bytes-without : (i : Input) (used : ℕ) → used ≤ length i.held → Bytes (all_of i) → Bytes (all_of (without used i))
bytes-without i used h small =
    subst Bytes (drop-append-le used i.held (join i.reads) h) (bytes_drop (all_of i) used small)

-- a read of an input that has not ended
record OneRead (i : Input) : Type 0 where
  after : Input
  read : Read i after

read_exists : (held : List ℕ) (reads : List (List ℕ)) (ended : Bool) → ended ≡ false → OneRead (record { held = held; reads = reads; ended = ended })
read_exists held reads true e = absurd (let z : ◌≡◌ {A = ℕ} 0 1 = cc in omega arith)
read_exists held [] false e = record { after = _; read = none }
read_exists held (bytes ∷ reads) false e = record { after = _; read = more }

-- one read more finds the end
abbrev end_reads : (ended : Bool) → ℕ
end_reads true = 0
end_reads false = 1

-- what is left of an input, its bytes and its reads: each pass of a run that goes on leaves less of both inputs together
abbrev left_of : Input → ℕ
left_of i = length (all_of i) + (length i.reads + end_reads i.ended)

left-without : (i : Input) (used : ℕ) → used ≤ length i.held → left_of (without used i) + used ≡ left_of i
left-without i used h =
    omega (
      arith,
      h,
      length-append (drop used i.held) (join i.reads),
      length-append i.held (join i.reads),
      length-drop used i.held,
    )

-- a read leaves less
left-read : {i j : Input} → Read i j → left_of j < left_of i
left-read (more {held = held} {bytes = bytes} {reads = reads}) =
    omega (arith, ap length (read_all (more {held = held} {bytes = bytes} {reads = reads})))
left-read none = omega arith

module _ (asked : Asked) where
  -- a pass, and a run of what it leaves
  runs_after : (stage : Stage) (i j : Input) {r : Passed} {text : List ℕ} → Bytes (all_of i) → Bytes (all_of j) → Passes asked stage i.held j.held i.ended j.ended r text → ((now : Stage) (i' j' : Input) → left_of i' + left_of j' < left_of i + left_of j → Bytes (all_of i') → Bytes (all_of j') → Ran asked now i' j') → Ran asked stage i j
  runs_after stage i j {r} {text} small small' p less = go p.follows
    where
      unused : left_of (without r.first i) + r.first ≡ left_of i
      unused = left-without i r.first p.within.0

      unused' : left_of (without r.second j) + r.second ≡ left_of j
      unused' = left-without j r.second p.within.1

      still : Bytes (all_of (without r.first i))
      still = bytes-without i r.first p.within.0 small

      still' : Bytes (all_of (without r.second j))
      still' = bytes-without j r.second p.within.1 small'

      go : Follows i.ended j.ended r.stage (drop r.first i.held) (drop r.second j.held) (r.first + r.second) r.next → Ran asked stage i j
      go (goes_on e some) =
          let rest = less r.stage (without r.first i) (without r.second j) (omega (arith, unused, unused', some)) still still' in
          record { written = _; last = _; runs = on p e rest.runs }
      go (wants_first e unended few) =
          let one = read_exists (drop r.first i.held) i.reads i.ended unended in
          let rest = less r.stage one.after (without r.second j) (omega (arith, unused, unused', left-read one.read)) (subst Bytes (sym (read_all one.read)) still) still' in
          record { written = _; last = _; runs = Reads-first p e one.read rest.runs }
      go (wants_second e unended few) =
          let one = read_exists (drop r.second j.held) j.reads j.ended unended in
          let rest = less r.stage (without r.first i) one.after (omega (arith, unused, unused', left-read one.read)) still (subst Bytes (sym (read_all one.read)) still') in
          record { written = _; last = _; runs = Reads-second p e one.read rest.runs }
      go (ends e different d) = record { written = _; last = _; runs = stop p e }

  runs_within : (k : ℕ) (stage : Stage) (i j : Input) → left_of i + left_of j < k → Bytes (all_of i) → Bytes (all_of j) → Ran asked stage i j
  runs_within zero stage i j h small small' = absurd (omega (arith, h))
  runs_within (suc k) stage i j h small small' =
      let one = pass asked i.held j.held i.ended j.ended stage (bytes-front i.held (join i.reads) small) (bytes-front j.held (join j.reads) small') in
      runs_after stage i j small small' one.passes (λ now i' j' l. runs_within k now i' j' (omega (arith, h, l)))

-- Every two inputs of bytes have a run, from every stage.
pub runs_exist : (asked : Asked) (stage : Stage) (i j : Input) → Bytes (all_of i) → Bytes (all_of j) → Ran asked stage i j
runs_exist asked stage i j = runs_within asked (suc (left_of i + left_of j)) stage i j (omega arith)
