-- What contracts inside the printer speak of, and no promise: the one loop over the frames of a listing, or over a body alone.
-- Assumes nothing.
use Rattle.std.specs.Prelude.{◌≡◌, Option, Some, Bool, true, false, cond, List, ℕ, ◌+◌, ◌^◌, ◌≤◌, ◌<◌, length, drop}
use Rattle.text.specs.Write.{write}
use Rattle.text.specs.Code.{Put}
use Rattle.answers.specs.Reasons.{answer_as}
use Rattle.answers.specs.Refusals.{answer_of}
use Rattle.frames.specs.Frames.{frame_size}
use Rattle.frames.specs.Code.{frame, frame_at}
use Rattle.frames.specs.declared.Frame.{Frame}
use Rattle.lines.specs.Text.{longest_line}
use Rattle.records.specs.declared.Asked.{Asked}
use Rattle.records.specs.Records.{refusals}
use Rattle.records.specs.Judged.{text_of}
use Rattle.listings.specs.Lines.{front_line, lines_of}
use Rattle.listings.specs.declared.Next.{Next}
use Rattle.listings.specs.declared.Walked.{Walked}

-- what stands at a place: alone, a body up to the end; else a frame, where it is whole
abbrev pub stands_at : (alone : Bool) → List ℕ → ℕ → Option Frame
stands_at alone xs at = cond alone (Some (frame at (length xs))) (frame_at xs at)

-- of what stands in front: its text, and how many bytes belong to it
unfoldable pub front_of : (alone : Bool) → Asked → List ℕ → List ℕ
front_of alone asked xs = cond alone (text_of true asked xs) (front_line asked xs)

abbrev pub size_of : (alone : Bool) → List ℕ → ℕ
size_of alone xs = cond alone (length xs) (frame_size xs)

-- the text of all that is there, from the front on
unfoldable pub all_of : (alone : Bool) → Asked → List ℕ → List ℕ
all_of alone asked xs = cond alone (text_of true asked xs) (lines_of asked xs)

-- where it begins: a listing after its version byte
abbrev pub start_of : (alone : Bool) → ℕ
start_of alone = cond alone 0 1

abbrev pub whole_text : (alone : Bool) → Asked → List ℕ → List ℕ
whole_text alone asked xs = all_of alone asked (drop (start_of alone) xs)

-- where the next text is put: aside, at the start; else after those before it
abbrev pub place_of : (aside : Bool) → ℕ → ℕ
place_of aside total = cond aside 0 total

-- the text in front was put, and the place after what stands there is next
pub record Stepped (alone : Bool) (asked : Asked) (xs : List ℕ) (at : ℕ) (before : List ℕ) (out : ℕ) (next : Next) (after : List ℕ) : Type 0 where
  pub place : next.at ≡ at + size_of alone (drop at xs)
  pub put : Put before out (front_of alone asked (drop at xs)) next.out after
  pub answer : alone ≡ true → answer_as next.refused ≡ answer_of (refusals asked (drop at xs))

-- there is room: for any line where each is put aside, else for the whole text, whose length is a number of the machine
pub record Walkable (alone aside : Bool) (asked : Asked) (xs text : List ℕ) : Type 0 where
  pub line : aside ≡ true → longest_line + 1 ≤ length text
  pub whole : aside ≡ false → length (whole_text alone asked xs) ≤ length text
  pub number : length (whole_text alone asked xs) < 2 ^ 64

-- the length of the whole text; the text itself where it was not put aside; and the answer of a record alone
pub record Walks (alone aside : Bool) (asked : Asked) (xs before : List ℕ) (r : Walked) (after : List ℕ) : Type 0 where
  pub total : r.total ≡ length (whole_text alone asked xs)
  pub put : aside ≡ false → after ≡ write before 0 (whole_text alone asked xs)
  pub answer : alone ≡ true → answer_as r.refused ≡ answer_of (refusals asked xs)
