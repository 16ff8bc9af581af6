-- A whole run: passes over both inputs, each cut into reads in any way.
-- Assumes nothing.
use Rattle.std.specs.Prelude.{◌≡◌, Bool, true, false, List, [], ◌∷◌, ◌++◌, ℕ, take, drop}
use Rattle.text.specs.Words.{join}
use Rattle.records.specs.declared.Asked.{Asked}
use Rattle.compared.specs.declared.Stage.{Stage}
use Rattle.compared.specs.declared.Next.TheVariants.{On, First, Second, Nothing}
use Rattle.compared.specs.declared.Passed.{Passed}
use Rattle.compared.specs.Pass.{Passes}

-- the bytes that are held of an input, the reads of it that are to come, and whether it has ended
pub record Input : Type 0 where
  pub held : List ℕ
  pub reads : List (List ℕ)
  pub ended : Bool

-- an input of which nothing is read yet
abbrev pub fresh : List (List ℕ) → Input
fresh reads = record { held = []; reads = reads; ended = false }

-- so many of the bytes are used
abbrev pub without : ℕ → Input → Input
without used i = record { held = drop used i.held; reads = i.reads; ended = i.ended }

-- a read: bytes come, or none come any more
pub data Read : Input → Input → Type 0 where
  more : {held bytes : List ℕ} {reads : List (List ℕ)} → Read (record { held = held; reads = bytes ∷ reads; ended = false }) (record { held = held ++ bytes; reads = reads; ended = false })
  none : {held : List ℕ} → Read (record { held = held; reads = []; ended = false }) (record { held = held; reads = []; ended = true })

-- A run from a stage, with these inputs: what its passes hand out, joined, and the stage at its end.
--   on: the text is handed out; first, second: that input is read; stop: nothing more is to be said
pub data Runs (asked : Asked) : Stage → (first second : Input) → (written : List ℕ) → (last : Stage) → Type 0 where
  on : {stage : Stage} {first second : Input} {written : List ℕ} {last : Stage} {r : Passed} {text : List ℕ} → Passes asked stage first.held second.held first.ended second.ended r text → r.next ≡ On → Runs asked r.stage (without r.first first) (without r.second second) written last → Runs asked stage first second (take r.out text ++ written) last
  first : {stage : Stage} {first first' second : Input} {written : List ℕ} {last : Stage} {r : Passed} {text : List ℕ} → Passes asked stage first.held second.held first.ended second.ended r text → r.next ≡ First → Read (without r.first first) first' → Runs asked r.stage first' (without r.second second) written last → Runs asked stage first second (take r.out text ++ written) last
  second : {stage : Stage} {first second second' : Input} {written : List ℕ} {last : Stage} {r : Passed} {text : List ℕ} → Passes asked stage first.held second.held first.ended second.ended r text → r.next ≡ Second → Read (without r.second second) second' → Runs asked r.stage (without r.first first) second' written last → Runs asked stage first second (take r.out text ++ written) last
  stop : {stage : Stage} {first second : Input} {r : Passed} {text : List ℕ} → Passes asked stage first.held second.held first.ended second.ended r text → r.next ≡ Nothing → Runs asked stage first second (take r.out text) r.stage

-- all bytes of an input: those that are held, and those of the reads to come
abbrev pub all_of : Input → List ℕ
all_of i = i.held ++ join i.reads

-- there is a run
pub record Ran (asked : Asked) (stage : Stage) (i j : Input) : Type 0 where
  pub written : List ℕ
  pub last : Stage
  pub runs : Runs asked stage i j written last
