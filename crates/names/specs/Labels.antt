-- The size labels.
-- Assumes nothing.
use Rattle.std.specs.Prelude.{List, [], ◌∷◌, ℕ, get_or}
use Rattle.text.specs.Words.{bytes}

-- "Labels: 1 byte, 2 word, 4 dword, 8 qword, 16 xmmword, 32 ymmword, 64 zmmword, then " ptr "", and those that document 000 names
-- besides; the first is none
unfoldable pub labels : List (List ℕ)
labels =
    [] ∷ bytes "byte ptr " ∷ bytes "word ptr " ∷ bytes "dword ptr " ∷ bytes "qword ptr " ∷ bytes "xmmword ptr " ∷ bytes "ymmword ptr "
    ∷ bytes "zmmword ptr " ∷ bytes "mmword ptr " ∷ bytes "fword ptr " ∷ bytes "tbyte ptr " ∷ []

-- a label by its place in that list; past it there is none
unfoldable pub label_word : ℕ → List ℕ
label_word k = get_or labels k []
