-- What contracts inside the compare tool speak of, and no promise: what is to be done at a place, what was put of a record, and the
-- code's step.
-- Assumes nothing.
use Rattle.std.specs.Prelude.{◌≡◌, Bool, ◌&&◌, not, List, ◌++◌, ℕ, ◌+◌, ◌-◌, ◌≤◌, length, take, drop, Option, Some, None}
use Rattle.text.specs.Words.{bytes, empty}
use Rattle.text.specs.Code.{Put}
use Rattle.numerals.specs.Decimals.{decimal}
use Rattle.records.specs.Lines.{record_line}
use Rattle.frames.specs.Code.{frame}
use Rattle.frames.specs.declared.Frame.{Frame}
use Rattle.cursors.specs.declared.Stands.{Stands}
use Rattle.cursors.specs.declared.Stands.TheVariants.{Body, End, Cut, More}
use Rattle.records.specs.declared.Asked.{Asked}
use Rattle.compared.specs.declared.Side.TheVariants.{Sound, Cut as SideCut}
use Rattle.compared.specs.declared.AskedSides.{AskedSides}
use Rattle.compared.specs.declared.Turn.{Turn}
use Rattle.compared.specs.declared.Turn.TheVariants.{First, Second, Ends, Records}
use Rattle.compared.specs.declared.Noted.{Noted}
use Rattle.compared.specs.declared.Stage.{Stage}
use Rattle.compared.specs.declared.Passed.{Passed}
use Rattle.compared.specs.Places.{Found}
use Rattle.compared.specs.Places.Found.{found, none}
use Rattle.compared.specs.Events.{kind_of, naming, events_at}
use Rattle.compared.specs.Text.{capped, kind_text, events_text, longest_event}
use Rattle.compared.specs.Pass.{Goes, Follows}

-- no byte is there, and some may come
abbrev pub wanting : List ℕ → (ended : Bool) → Bool
wanting xs ended = empty xs && not ended

-- the frame of the record that stands there
abbrev pub frame_of : Stands → Option Frame
frame_of (Body start end) = Some (frame start end)
frame_of End = None
frame_of Cut = None
frame_of More = None

-- what is to be done, by what stands on each side: first bytes that are wanted, then cuts, then records, by the places of their bodies
abbrev pub turn_of : (first second : Stands) → Turn
turn_of More y = First
turn_of (Body a b) More = Second
turn_of End More = Second
turn_of Cut More = Second
turn_of Cut (Body c d) = Ends SideCut Sound
turn_of Cut End = Ends SideCut Sound
turn_of Cut Cut = Ends SideCut SideCut
turn_of (Body a b) Cut = Ends Sound SideCut
turn_of End Cut = Ends Sound SideCut
turn_of (Body a b) (Body c d) = Records (Some (frame a b)) (Some (frame c d))
turn_of (Body a b) End = Records (Some (frame a b)) None
turn_of End (Body c d) = Records None (Some (frame c d))
turn_of End End = Ends Sound Sound

-- the body of the record that stands there, and what it is to the other side's
abbrev pub body_in : List ℕ → Stands → Option (List ℕ)
body_in xs (Body start end) = Some (take (end - start) (drop start xs))
body_in xs End = None
body_in xs Cut = None
body_in xs More = None

abbrev pub found_of : Option (List ℕ) → Found
found_of (Some body) = found body
found_of None = none

-- what is said of a record, in the parts in which it is put
unfoldable pub head_text : ℕ → List ℕ
head_text number = bytes "record " ++ decimal number

unfoldable pub differing_text : AskedSides → ℕ → (first second : List ℕ) → List ℕ
differing_text sides number first second =
    head_text number ++ kind_text (kind_of (record_line sides.first first) (record_line sides.second second))

unfoldable pub only_text : Asked → ℕ → (words body : List ℕ) → List ℕ
only_text asked number words body = head_text number ++ (words ++ record_line asked body)

-- a record's line stands at the start of an array
pub record LineAside (asked : Asked) (body : List ℕ) (r : ℕ) (line : List ℕ) : Type 0 where
  pub within : r ≤ length line
  pub text : take r line ≡ record_line asked body

-- what was put of a record that stands, or not, on each side, and how many are named then
pub record Notes (sides : AskedSides) (number named : ℕ) (first second : Found) (before : List ℕ) (at : ℕ) (r : Noted) (after : List ℕ) : Type 0 where
  pub put : Put before at (events_text (events_at number (naming sides first second))) r.out after
  pub count : r.named ≡ capped (named + length (events_at number (naming sides first second)))

-- the code's step from a place in each listing: what it says was put, and it goes on from there
pub record Steps (asked : Asked) (stage : Stage) (xs ys : List ℕ) (at at' : ℕ) (ended ended' : Bool) (before : List ℕ) (out : ℕ) (r : Passed) (after : List ℕ) : Type 0 where
  pub says : List ℕ
  pub put : Put before out says r.out after
  pub goes : Goes asked ended ended' stage (drop at xs) (drop at' ys) says r.stage (drop r.first xs) (drop r.second ys)
  pub short : length says ≤ longest_event
  pub onward : (at ≤ r.first) × (at' ≤ r.second)
  pub within : (r.first ≤ length xs) × (r.second ≤ length ys)
  pub follows : Follows ended ended' r.stage (drop r.first xs) (drop r.second ys) ((r.first - at) + (r.second - at')) r.next
