-- What contracts inside the printer speak of, and no promise: a step and a pass over the stages of a listing, whatever is said of its records.
-- Assumes nothing.
use Rattle.std.specs.Prelude.{◌≡◌, Bool, List, [], ◌++◌, ℕ, ◌≤◌, ◌<◌, length, take, drop}
use Rattle.text.specs.Code.{Put}
use Rattle.records.specs.declared.Asked.{Asked}
use Rattle.streams.specs.Pass.{last_line}
use Rattle.streams.specs.declared.Next.{Next}
use Rattle.streams.specs.declared.Next.TheVariants.{Full}
use Rattle.streams.specs.declared.Step.{Step}
use Rattle.streams.specs.declared.Passed.{Passed}

-- the ways between stages: from a stage with these bytes held, what is said, the stage and the bytes held then, and how many whole frames,
-- and refused ones, end on it
abbrev pub Way : Type 0 → Type 1
Way S = Asked → S → List ℕ → List ℕ → S → List ℕ → ℕ → ℕ → Type 0

-- the code's step: what it says was put, and it goes on from there; where it uses nothing, it says nothing
pub record StepsOn {S : Type 0} (way : Way S) (unused : Asked → S → List ℕ → Type 0) (alive : S → Type 0) (room : ℕ) (asked : Asked) (stage : S) (held before : List ℕ) (out : ℕ) (step : Step S) (after : List ℕ) : Type 0 where
  pub says : List ℕ
  pub put : Put before out says step.out after
  pub goes : way asked stage held says step.stage (drop step.used held) step.records step.refused
  pub uses : step.used ≤ length held
  pub short : length says ≤ room
  pub refuses : step.refused ≤ step.records
  pub counts : step.records ≤ step.used
  pub lives : alive step.stage
  pub none : step.used ≡ 0 → (says ≡ []) × unused asked stage held

-- what comes after a pass: where the text is full, some bytes were used; else what is held is not enough for a step
pub data FollowsOn {S : Type 0} (unused : Asked → S → List ℕ → Type 0) (next_from : Bool → S → ℕ → Next) (asked : Asked) (ended : Bool) (stage : S) (held : List ℕ) (used : ℕ) (next : Next) : Type 0 where
  full : next ≡ Full → 0 < used → FollowsOn unused next_from asked ended stage held used next
  rests : next ≡ next_from ended stage (length held) → unused asked stage held → FollowsOn unused next_from asked ended stage held used next

-- a pass: what is said on its way, and the last line, stands at the start of the text; what is held then is what it did not use; and the
-- stage is one from which it can go on
pub record PassesOver {S : Type 0} (way : Way S) (unused : Asked → S → List ℕ → Type 0) (alive : S → Type 0) (next_from : Bool → S → ℕ → Next) (asked : Asked) (stage : S) (held : List ℕ) (ended : Bool) (r : Passed S) (after : List ℕ) : Type 0 where
  pub says : List ℕ
  pub goes : way asked stage held says r.stage (drop r.used held) r.records r.refused
  pub text : take r.out after ≡ says ++ last_line r.next
  pub fits : r.out ≤ length after
  pub within : r.used ≤ length held
  pub counted : (r.refused ≤ r.records) × (r.records ≤ r.used)
  pub lives : alive r.stage
  pub follows : FollowsOn unused next_from asked ended r.stage (drop r.used held) r.used r.next
