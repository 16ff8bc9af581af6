-- What is said of one record: its number and its place, its line, and its body in hex.
--   ; record 0 at byte 1
--   push 5 ; 00 21 00 02 04 00 00 00 05 00 00 00 00 01 03 00 00 00 00
-- Assumes nothing.
use Rattle.std.specs.Prelude.{ℕ, zero, suc, ◌-◌, cond, List, [], ◌∷◌, ◌++◌, ◌==◌}
use Rattle.text.specs.Words.{bytes}
use Rattle.numerals.specs.Digits.{digits}
use Rattle.numerals.specs.Decimals.{decimal}
use Rattle.answers.specs.Lines.{newline, refused_text}
use Rattle.answers.specs.Refusals.{answer_of}
use Rattle.records.specs.declared.Asked.{Asked}
use Rattle.records.specs.Records.{refusals, record_text}

-- so many bytes of a body stand on a line: every version 1 body that prints stands on one
abbrev pub per_line : ℕ
per_line = 40

-- a byte of a body: a blank, and two digits in upper-case hex
abbrev pub pair : ℕ → List ℕ
pair b = bytes " " ++ digits 2 b

-- where the line has room for so many more bytes; where it has none, a line of its own goes on with the body
abbrev pub on_line : (room : ℕ) → ℕ → List ℕ
on_line zero b = (newline ++ bytes "; +") ++ pair b
on_line (suc room) b = pair b

-- for how many more it has room then
abbrev pub room_after : ℕ → ℕ
room_after zero = per_line - 1
room_after (suc room) = room

unfoldable pub pairs : (room : ℕ) → List ℕ → List ℕ
pairs room [] = []
pairs room (b ∷ bs) = on_line room b ++ pairs (room_after room) bs

-- a body: a word where it has no bytes
unfoldable pub body_text : List ℕ → List ℕ
body_text [] = bytes " empty"
body_text (b ∷ bs) = pairs per_line (b ∷ bs)

-- the record's number and the place of its frame's first byte
unfoldable pub head_line : (number offset : ℕ) → List ℕ
head_line number offset = bytes "; record " ++ (decimal number ++ (bytes " at byte " ++ (decimal offset ++ newline)))

-- the record's line without its newline: its text, or the refusal's number
abbrev pub shown_with : ℕ → List ℕ → List ℕ
shown_with answer text = cond (answer == 0) text (refused_text answer)

unfoldable pub shown_text : Asked → List ℕ → List ℕ
shown_text asked body = shown_with (answer_of (refusals asked body)) (record_text asked body)

-- its body as a comment after it
unfoldable pub comment_text : List ℕ → List ℕ
comment_text body = bytes " ;" ++ (body_text body ++ newline)

unfoldable pub record_part : Asked → (number offset : ℕ) → List ℕ → List ℕ
record_part asked number offset body = head_line number offset ++ (shown_text asked body ++ comment_text body)

-- no part is longer
abbrev pub longest_part : ℕ
longest_part = 204_000
