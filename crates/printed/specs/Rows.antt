-- A row of what the Rust printed: the bytes handed to an entry point, the modes, and the text or the answer; and what it says of the
-- outcome, for every buffer.
-- Assumes nothing.
use Rattle.std.specs.Prelude.{◌≡◌, cond, List, [], ◌∷◌, ℕ, ◌+◌, ◌-◌, ◌*◌, ◌≤◌, ◌<◌, eqb, ltb}
use Prim.Native.String.{String}
use Rattle.std.proofs.Math.ListN as list
use Rattle.text.specs.Words.{bytes}
use Rattle.text.specs.Write.{write}
use Rattle.answers.specs.Outcomes.{Outcome}
use Rattle.records.specs.declared.Asked.{Asked}
use Rattle.records.specs.Compared.{asking, All}
use Rattle.records.specs.Records.{record_outcome}
use Rattle.listings.specs.Listings.{listing_outcome}

-- ---- Bytes as quoted text in hex

-- the number of each digit, 0 to 9 and A to F; blanks are left out
abbrev pub digits_in : List ℕ → List ℕ
digits_in [] = []
digits_in (c ∷ s) = cond (eqb c 32) (digits_in s) (cond (ltb c 65) (c - 48) (c - 55) ∷ digits_in s)

-- two digits to a byte
abbrev pub paired : List ℕ → List ℕ
paired [] = []
paired (a ∷ []) = []
paired (a ∷ b ∷ s) = (16 * a + b) ∷ paired s

-- "0017 00 04" is the bytes 0, 23, 0, 4
abbrev pub hex : String → List ℕ
hex s = paired (digits_in (bytes s))

-- ---- Rows

-- "Two are public: one record body, or one whole listing"
pub data Entry : Type 0 where
  one_record : Entry
  one_listing : Entry

-- what the Rust made of it: a text, or one of the answers 1 to 5 and 7
pub data Expected : Type 0 where
  prints : String → Expected
  answers : ℕ → Expected

pub record Row : Type 0 where
  pub entry : Entry
  pub modes : List ℕ
  pub given : List ℕ
  pub said : Expected

-- "Mode 0 is the crate's", "Mode 1, straight"; and two numbers of no mode
abbrev pub both : List ℕ
both = 0 ∷ 1 ∷ []

abbrev pub crate : List ℕ
crate = 0 ∷ []

abbrev pub straight : List ℕ
straight = 1 ∷ []

abbrev pub unknown : List ℕ
unknown = 3 ∷ 4_294_967_295 ∷ []

-- a record's body: body both "0050 00 04 00 00000000 00000000 00" (prints "nop")
abbrev pub body : List ℕ → String → Expected → Row
body modes given said = record { entry = one_record; modes = modes; given = hex given; said = said }

-- a listing: listing both "01 00" (prints "; cut\n")
abbrev pub listing : List ℕ → String → Expected → Row
listing modes given said = record { entry = one_listing; modes = modes; given = hex given; said = said }

-- a listing of one byte, so many times: repeated both "03" 16777217 (answers 2)
abbrev pub repeated : List ℕ → String → ℕ → Expected → Row
repeated modes given times said =
    record { entry = one_listing; modes = modes; given = list.replicate times (list.get_or (hex given) 0 0); said = said }

-- ---- What a row says

abbrev pub outcome_by : Entry → Asked → (given buf : List ℕ) → Outcome
outcome_by one_record asked given buf = record_outcome asked given buf
outcome_by one_listing asked given buf = listing_outcome asked given buf

-- a text, into every buffer
pub record Printed (outcome : List ℕ → Outcome) (text : List ℕ) : Type 0 where
  -- "0 printed: bytes written", and the text stands in front
  pub with_room_lem : (buf : List ℕ) → list.length text ≤ list.length buf → outcome buf ≡ record { answer = 0; length = list.length text; buffer = write buf 0 text }
  -- "6 room: bytes needed", and "the buffer is as before"
  pub without : (buf : List ℕ) → list.length buf < list.length text → outcome buf ≡ record { answer = 6; length = list.length text; buffer = buf }

-- an answer: length 0, and "the buffer is as before", of every buffer
abbrev pub Answered : (List ℕ → Outcome) → ℕ → Type 0
Answered outcome n = (buf : List ℕ) → outcome buf ≡ record { answer = n; length = 0; buffer = buf }

abbrev pub Says : (List ℕ → Outcome) → Expected → Type 0
Says outcome (prints text) = Printed outcome (bytes text)
Says outcome (answers n) = Answered outcome n

-- what the row says, in each of its modes
abbrev pub Holds : Row → Type 0
Holds r = All (λ (mode : ℕ). Says (outcome_by r.entry (asking mode) r.given) r.said) r.modes
