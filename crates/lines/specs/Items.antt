-- The text of an operand: its label, its segment, what is shown, its mask and its broadcast.
-- Assumes nothing.
use Rattle.std.specs.Prelude.{Bool, Option, Some, None, cond, List, [], ◌++◌, ℕ}
use Rattle.text.specs.Words.{bytes}
use Rattle.numerals.specs.Decimals.{decimal_within}
use Rattle.numerals.specs.Numerals.{numeral, absolute}
use Rattle.names.specs.Registers.{register_name}
use Rattle.operands.specs.declared.BranchWord.{BranchWord}
use Rattle.operands.specs.declared.BranchWord.TheVariants as word
use Rattle.operands.specs.declared.Item.{Item}
use Rattle.operands.specs.declared.Shown.{Shown}
use Rattle.operands.specs.declared.Shown.TheVariants.{Nothing, Name, St, Number, Word, Dword, Bracket, Branch, Target}
use Rattle.lines.specs.Fronts.{label_text, segment_text}
use Rattle.lines.specs.Brackets.{bracket_text, mask_text}

-- an absolute stands in a bracket
unfoldable pub absolute_text : ℕ → ℕ → List ℕ
absolute_text k address = bytes "[" ++ (absolute k address ++ bytes "]")

-- "`$`, sign .."
abbrev pub sign_text : Bool → List ℕ
sign_text minus = cond minus (bytes "$-") (bytes "$+")

-- the word before `$`, or before the target
abbrev pub word_text : BranchWord → List ℕ
word_text word.None = []
word_text word.Short = bytes "short "
word_text word.Near = bytes "near ptr "

-- the word, and "`$`, sign and numeral of distance plus length"
unfoldable pub branch_text : BranchWord → Bool → ℕ → List ℕ
branch_text word minus size = word_text word ++ (sign_text minus ++ numeral size)

-- document 02, W-205: the word, and "the branch target as eight digits and h with the absolute rule's leading 0"
unfoldable pub target_text : BranchWord → ℕ → List ℕ
target_text word target = word_text word ++ absolute 8 target

unfoldable pub shown_text : Shown → List ℕ
shown_text Nothing = []
shown_text (Name reg) = register_name reg
shown_text St = bytes "st"
shown_text (Number value) = numeral value
shown_text (Word address) = absolute_text 4 address
shown_text (Dword address) = absolute_text 8 address
shown_text (Bracket address) = bracket_text address
shown_text (Branch word minus size) = branch_text word minus size
shown_text (Target word target) = target_text word target

-- document 02's `{1toN}`, as `{1to16}`; two digits are enough, since "a printed `{1toN}` with N above 16" is refused
unfoldable pub broadcast_text : Option ℕ → List ℕ
broadcast_text None = []
broadcast_text (Some n) = bytes "{1to" ++ (decimal_within 2 n ++ bytes "}")

-- `qword ptr fs:[ebx]{k1}{1to8}`
unfoldable pub item_text : Item → List ℕ
item_text i =
    label_text i.label ++ (segment_text i.segment ++ (shown_text i.shown ++ (mask_text i.mask ++ broadcast_text i.broadcast)))
