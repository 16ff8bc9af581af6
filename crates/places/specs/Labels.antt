-- A label's place in the table of labels.
-- Assumes nothing.
use Rattle.std.specs.Prelude.{List, [], ◌∷◌, ℕ, get_or}
use Rattle.operands.specs.declared.Label.{Label}
use Rattle.operands.specs.declared.Label.TheVariants.{None, Byte, Word, Dword, Qword, Xmmword, Ymmword, Zmmword, Mmword, Fword, Tbyte, Missing}

abbrev pub label_number : Label → ℕ
label_number None = 0
label_number Byte = 1
label_number Word = 2
label_number Dword = 3
label_number Qword = 4
label_number Xmmword = 5
label_number Ymmword = 6
label_number Zmmword = 7
label_number Mmword = 8
label_number Fword = 9
label_number Tbyte = 10
label_number Missing = 11

-- the labels by their numbers
abbrev pub labels_in_order : List Label
labels_in_order = None ∷ Byte ∷ Word ∷ Dword ∷ Qword ∷ Xmmword ∷ Ymmword ∷ Zmmword ∷ Mmword ∷ Fword ∷ Tbyte ∷ Missing ∷ []

-- the label of a number; any other number is none
unfoldable pub label_at : ℕ → Label
label_at n = get_or labels_in_order n None
