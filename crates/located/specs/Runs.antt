-- A whole run: passes over the input, cut into reads in any way.
-- Assumes nothing.
use Rattle.std.specs.Prelude.{◌≡◌, ℕ, ◌+◌, Bool, true, false, List, [], ◌∷◌, ◌++◌, take, drop, ◌≢◌}
use Rattle.records.specs.declared.Asked.{Asked}
use Rattle.streams.specs.declared.Next.{Next}
use Rattle.streams.specs.declared.Next.TheVariants.{Full, Read}
use Rattle.located.specs.Pass.{Passes}
use Rattle.located.specs.declared.Stage.{Stage}
use Rattle.streams.specs.declared.Passed.{Passed}

-- A run from a stage, with these bytes held and these reads to come: what its passes hand out, joined, their counts and the bytes
-- they used added up, and how it ends. `ended`: the input has ended.
--   full: the text is full, and is handed out; more: bytes come; none: none come any more; stop: nothing more is to be said
pub data Runs (asked : Asked) : Bool → Stage → List ℕ → List (List ℕ) → List ℕ → ℕ → ℕ → ℕ → Next → Type 0 where
  full : {ended : Bool} {stage : Stage} {held : List ℕ} {reads : List (List ℕ)} {written : List ℕ} {records refused used : ℕ} {last : Next} {r : Passed Stage} {after : List ℕ} → Passes asked stage held ended r after → r.next ≡ Full → Runs asked ended r.stage (drop r.used held) reads written records refused used last → Runs asked ended stage held reads (take r.out after ++ written) (r.records + records) (r.refused + refused) (r.used + used) last
  more : {stage : Stage} {held bytes : List ℕ} {reads : List (List ℕ)} {written : List ℕ} {records refused used : ℕ} {last : Next} {r : Passed Stage} {after : List ℕ} → Passes asked stage held false r after → r.next ≡ Read → Runs asked false r.stage (drop r.used held ++ bytes) reads written records refused used last → Runs asked false stage held (bytes ∷ reads) (take r.out after ++ written) (r.records + records) (r.refused + refused) (r.used + used) last
  none : {stage : Stage} {held : List ℕ} {written : List ℕ} {records refused used : ℕ} {last : Next} {r : Passed Stage} {after : List ℕ} → Passes asked stage held false r after → r.next ≡ Read → Runs asked true r.stage (drop r.used held) [] written records refused used last → Runs asked false stage held [] (take r.out after ++ written) (r.records + records) (r.refused + refused) (r.used + used) last
  stop : {ended : Bool} {stage : Stage} {held : List ℕ} {reads : List (List ℕ)} {r : Passed Stage} {after : List ℕ} → Passes asked stage held ended r after → (r.next ≢ Full) → (r.next ≢ Read) → Runs asked ended stage held reads (take r.out after) r.records r.refused r.used r.next
