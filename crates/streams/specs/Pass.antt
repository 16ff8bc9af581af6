-- Steps one after the other, with the bytes that are there: what a pass promises.
-- Assumes nothing.
use Rattle.std.specs.Prelude.{◌≡◌, Bool, cond, List, [], ◌++◌, ℕ, ◌+◌, ◌≤◌, ◌<◌, length, take, drop}
use Rattle.bodies.specs.Refusals.{longest_body}
use Rattle.records.specs.declared.Asked.{Asked}
use Rattle.listings.specs.Lines.{cut_line}
use Rattle.streams.specs.Stream.{stepped, Alive, cut_at}
use Rattle.streams.specs.declared.Stage.{Stage}
use Rattle.streams.specs.declared.Stage.TheVariants.{Version, Frames, Skip, Done}
use Rattle.streams.specs.declared.Next.{Next}
use Rattle.streams.specs.declared.Next.TheVariants.{Full, Read, Whole, Cut, Unknown}
use Rattle.streams.specs.declared.Passed.{Passed}

-- Steps from a stage with these bytes held: what they say, the stage and the bytes held then, and how many whole frames, and refused
-- ones, they saw the end of.
--   none: no step; more: one step more
pub data Steps (asked : Asked) (stage : Stage) (held : List ℕ) : List ℕ → Stage → List ℕ → ℕ → ℕ → Type 0 where
  none : Steps asked stage held [] stage held 0 0
  more : {says : List ℕ} {now : Stage} {left : List ℕ} {records refused : ℕ} → Steps asked stage held says now left records refused → Steps asked stage held (says ++ (stepped asked now left).says) (stepped asked now left).stage (drop (stepped asked now left).used left) (records + (stepped asked now left).records) (refused + (stepped asked now left).refused)

-- what comes next where no step uses any of the bytes that are held
abbrev pub next_at : (ended : Bool) → Stage → ℕ → Next
next_at ended Version held = cond ended Cut Read
next_at ended (Frames version) held = cond ended (cond (cut_at (Frames version) held) Cut Whole) Read
next_at ended (Skip left size version) held = cond ended Cut Read
next_at ended Done held = Unknown

-- "Missing bytes .. end it with `; cut`": the last line, where there is one
unfoldable pub last_line : Next → List ℕ
last_line Full = []
last_line Read = []
last_line Whole = []
last_line Cut = cut_line
last_line Unknown = []

-- no step uses any of the bytes held, which are few
abbrev pub Unused : Asked → Stage → List ℕ → Type 0
Unused asked stage held = ((stepped asked stage held).used ≡ 0) × (length held ≤ longest_body + 1)

-- What comes next: where the text is full, some bytes were used; else no step uses any of the bytes held, which are few.
pub record Rests (asked : Asked) (ended : Bool) (stage : Stage) (held : List ℕ) (next : Next) : Type 0 where
  pub unused : (stepped asked stage held).used ≡ 0
  pub next_is : next ≡ next_at ended stage (length held)
  pub few : length held ≤ longest_body + 1

pub data Follows (asked : Asked) (ended : Bool) (stage : Stage) (held : List ℕ) (used : ℕ) (next : Next) : Type 0 where
  full : next ≡ Full → 0 < used → Follows asked ended stage held used next
  rests : Rests asked ended stage held next → Follows asked ended stage held used next

-- what a pass promises: it takes steps; what they say, and the last line, stands at the start of the text; what is held then is what
-- it did not use; and the stage is one from which it can go on
pub record Passes (asked : Asked) (stage : Stage) (held : List ℕ) (ended : Bool) (r : Passed Stage) (after : List ℕ) : Type 0 where
  pub says : List ℕ
  pub steps : Steps asked stage held says r.stage (drop r.used held) r.records r.refused
  pub text : take r.out after ≡ says ++ last_line r.next
  pub fits : r.out ≤ length after
  pub within : r.used ≤ length held
  pub counted : (r.refused ≤ r.records) × (r.records ≤ r.used)
  pub alive : Alive r.stage
  pub follows : Follows asked ended r.stage (drop r.used held) r.used r.next
