-- The parts of an operand's text: their cases and their lengths.
-- Assumes nothing.
use mathlib.Core.Path.{◌≡◌, refl, sym, ◌∙◌}
use mathlib.Core.Bool.{Bool, true, false}
use mathlib.Core.List.{List, ◌++◌, append_assoc}
use Prim.Native.Nat.{ℕ, ◌+◌}
use native.Mathlib.Nat.{add_assoc}
use native.Mathlib.Omega.{arith}
use lib.ListN.{length, length-append}
use Rattle.text.specs.Words.{bytes}
use Rattle.numerals.specs.Numerals.{numeral, absolute}
use Rattle.operands.specs.declared.Address.{Address}
use Rattle.operands.specs.declared.BranchWord.{BranchWord}
use Rattle.operands.specs.declared.Item.{Item}
use Rattle.lines.specs.Fronts.{label_text, segment_text}
use Rattle.lines.specs.Brackets.{base_text, index_text, tail_text, bracket_text, mask_text, masked_text}
use Rattle.lines.specs.Items.{absolute_text, sign_text, word_text, branch_text, target_text, shown_text, broadcast_text, item_text}

-- bracket and mask before any text
pub masked_append : (a : Address) (mask : ℕ) (t : List ℕ) → masked_text a mask ++ t ≡ bracket_text a ++ (mask_text mask ++ t)
unfolding masked_text
masked_append a mask t = append_assoc (bracket_text a) (mask_text mask) t

-- lengths
pub bracket_length : (a : Address) → length (bracket_text a) ≡ 1 + length (base_text a.based a.base) + length (index_text a) + length (tail_text a.displaced a.disp)
unfolding bracket_text
bracket_length a =
    let base = base_text a.based a.base in
    let tail = tail_text a.displaced a.disp in
    length-append (bytes "[") (base ++ (index_text a ++ tail))
    ∙ rw (length-append base (index_text a ++ tail), length-append (index_text a) tail) (omega arith)

pub masked_length : (a : Address) (mask : ℕ) → length (masked_text a mask) ≡ length (bracket_text a) + length (mask_text mask)
unfolding masked_text
masked_length a mask = length-append (bracket_text a) (mask_text mask)

pub absolute-length : (k address : ℕ) → length (absolute_text k address) ≡ 2 + length (absolute k address)
unfolding absolute_text
absolute-length k address =
    length-append (bytes "[") (absolute k address ++ bytes "]") ∙ rw (length-append (absolute k address) (bytes "]")) (omega arith)

pub branch_length : (w : BranchWord) (minus : Bool) (size : ℕ) → length (branch_text w minus size) ≡ length (word_text w) + 2 + length (numeral size)
unfolding branch_text
branch_length w minus size =
    length-append (word_text w) (sign_text minus ++ numeral size)
    ∙ rw (length-append (sign_text minus) (numeral size), sign-length minus)
    (sym (add_assoc (length (word_text w)) 2 (length (numeral size))))
  where
    sign-length : (minus : Bool) → length (sign_text minus) ≡ 2
    sign-length true = refl
    sign-length false = refl

pub target_length : (w : BranchWord) (target : ℕ) → length (target_text w target) ≡ length (word_text w) + length (absolute 8 target)
unfolding target_text
target_length w target = length-append (word_text w) (absolute 8 target)

pub item-length :
    (i : Item) →
    length (item_text i) ≡ length (label_text i.label) + length (segment_text i.segment) + length (shown_text i.shown) + length (mask_text i.mask) + length (broadcast_text i.broadcast)
unfolding item_text
item-length i =
    let label = label_text i.label in
    let segment = segment_text i.segment in
    let shown = shown_text i.shown in
    let mask = mask_text i.mask in
    let broadcast = broadcast_text i.broadcast in
    omega (
      arith,
      length-append label (segment ++ (shown ++ (mask ++ broadcast))),
      length-append segment (shown ++ (mask ++ broadcast)),
      length-append shown (mask ++ broadcast),
      length-append mask broadcast,
    )
