-- A refusal is a number and a test. The refusals of an entry point are a list of such pairs, in the order in which they are asked.
-- Assumes nothing.
use Rattle.std.specs.Prelude.{◌≡◌, Bool, true, false, cond, ◌&&◌, List, [], ◌∷◌, ℕ, ◌<◌, ltb, eqb}

pub record Refusal : Type 0 where
  pub number : ℕ
  pub applies : Bool

abbrev pub refusal : ℕ → Bool → Refusal
refusal number applies = record { number = number; applies = applies }

-- document 01's numbers: "1 mode", "2 length", "3 field", "4 shape", "5 size", "6 room"; and document 02's "7, a printed `{1toN}` with N
-- above 16"
abbrev pub mode : ℕ
mode = 1

abbrev pub length : ℕ
length = 2

abbrev pub field : ℕ
field = 3

abbrev pub shape : ℕ
shape = 4

abbrev pub size : ℕ
size = 5

abbrev pub room : ℕ
room = 6

abbrev pub broadcast : ℕ
broadcast = 7

-- the answer: the number of the first that applies, and 0 where none does
abbrev pub answer_of : List Refusal → ℕ
answer_of [] = 0
answer_of (r ∷ rs) = cond r.applies r.number (answer_of rs)

-- k is the number of the first that applies
pub data First : List Refusal → ℕ → Type 0 where
  here : {r : Refusal} {rs : List Refusal} → r.applies ≡ true → First (r ∷ rs) r.number
  later : {r : Refusal} {rs : List Refusal} {k : ℕ} → r.applies ≡ false → First rs k → First (r ∷ rs) k

-- none applies
abbrev pub None : List Refusal → Type 0
None [] = Unit {0}
None (r ∷ rs) = (r.applies ≡ false) × None rs

-- a refusal's number is never 0, which is the answer of what is printed
abbrev pub NeverZero : List Refusal → Type 0
NeverZero [] = Unit {0}
NeverZero (r ∷ rs) = (0 < r.number) × NeverZero rs

-- the numbers stand in this order, each below the next
abbrev pub ascending : List Refusal → Bool
ascending [] = true
ascending (r ∷ []) = true
ascending (r ∷ s ∷ rs) = ltb r.number s.number && ascending (s ∷ rs)

-- some refusal of this number applies
abbrev pub applies : List Refusal → ℕ → Bool
applies [] k = false
applies (r ∷ rs) k = cond (eqb r.number k && r.applies) true (applies rs k)

-- "The lowest number that applies": it applies, and none below it does
pub record Lowest (rs : List Refusal) (k : ℕ) : Type 0 where
  pub own : applies rs k ≡ true
  pub none_below : (j : ℕ) → j < k → applies rs j ≡ false
