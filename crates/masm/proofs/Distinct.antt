-- No two words of the reader mean the same, but those that MASM has for the same: `st` and `st(0)`, `repe` and `repz`, `repne` and
-- `repnz`, and the other words for sizes. Each rule is one test that is computed over the table.
use mathlib.Core.Bool.{Bool, true, false, not, ◌&&◌, ◌||◌}
use mathlib.Core.List.{List, [], ◌∷◌, ◌++◌, map}
use Prim.Native.Nat.{ℕ}
use lib.Dec.{T, eqb}
use Rattle.masm.specs.Tokens.{same_list, same_token}
use Rattle.masm.specs.Expressions.{registers}
use Rattle.masm.specs.Operands.{Label, Byte, Word, Dword, Fword, Qword, Mmword, Tbyte, Xmmword, Ymmword, Zmmword, widths, labels, synonyms, segments, masks}
use Rattle.masm.specs.Lines.{prefix_words, Tail, Sae, Nearest, Down, Up, Zero, tails}

abbrev holds : {A : Type 0} → (A → A → Bool) → A → List A → Bool
holds eq x [] = false
holds eq x (y ∷ ys) = eq x y || holds eq x ys

abbrev distinct : {A : Type 0} → (A → A → Bool) → List A → Bool
distinct eq [] = true
distinct eq (x ∷ xs) = not (holds eq x xs) && distinct eq xs

abbrev unless_first : {A : Type 0} → List A → List A
unless_first [] = []
unless_first (x ∷ xs) = xs

-- `st` is the table's first
no_two_registers : T (distinct eqb (map (λ e. e.1) (unless_first registers)))
unfolding registers
no_two_registers = tt

no_two_segments : T (distinct eqb (map (λ e. e.1) segments))
unfolding segments
no_two_segments = tt

no_two_widths : T (distinct eqb (map (λ e. e.1) widths))
unfolding widths
no_two_widths = tt

no_two_masks : T (distinct eqb (map (λ e. e.1) masks))
unfolding masks
no_two_masks = tt

abbrev number : Label → ℕ
number Byte = 0
number Word = 1
number Dword = 2
number Fword = 3
number Qword = 4
number Mmword = 5
number Tbyte = 6
number Xmmword = 7
number Ymmword = 8
number Zmmword = 9

no_two_labels : T (distinct eqb (map (λ e. number e.1) labels))
unfolding labels
no_two_labels = tt

abbrev tail_number : Tail → ℕ
tail_number Sae = 0
tail_number Nearest = 1
tail_number Down = 2
tail_number Up = 3
tail_number Zero = 4

no_two_tails : T (distinct eqb (map (λ e. tail_number e.1) tails))
unfolding tails
no_two_tails = tt

-- and no name stands twice in a table, so that none is read in two ways
no_name_twice :
    T (
    distinct (same_list same_token) (map (λ e. e.0) registers)
    && distinct (same_list same_token) (map (λ e. e.0) segments)
    && distinct (same_list same_token) (map (λ e. e.0) widths)
    && distinct (same_list same_token) (map (λ e. e.0) (labels ++ synonyms))
    && distinct (same_list same_token) (map (λ e. e.0) prefix_words)
    && distinct (same_list same_token) (map (λ e. e.0) masks)
    && distinct (same_list same_token) (map (λ e. e.0) tails)
    )
unfolding registers segments widths labels synonyms prefix_words masks tails
no_name_twice = tt
