-- No operand's text is longer than so; and document 02's "A line may have 320 bytes."
-- Assumes nothing.
use Rattle.std.specs.Prelude.{Option, Some, None}
use mathlib.Core.Bool.{Bool}
use mathlib.Core.List.{List, [], ◌∷◌, ◌++◌}
use Prim.Native.Nat.{ℕ, zero, suc, ◌+◌, ◌/◌, ◌%◌, ◌≤◌}
use native.Mathlib.Omega.{arith}
use lib.Dec.{ltb, lit≤}
use lib.IntN.{ℤ}
use lib.ListN.{length, length-append}
use Rattle.text.specs.Choice.{when}
use Rattle.text.specs.Words.{bytes}
use Rattle.text.proofs.Choosing.{cond_by, length-when, cond_most}
use Rattle.text.proofs.Tables.{no_longer}
use Rattle.numerals.specs.Decimals.{decimal_within}
use Rattle.numerals.specs.Digits.{digits}
use Rattle.numerals.specs.Numerals.{displacement}
use Rattle.numerals.proofs.Places.{length_digits}
use Rattle.numerals.proofs.Short.{numeral_short, displacement_short, absolute_short}
use Rattle.names.specs.Registers.{registers, register_name, segments, segment_name}
use Rattle.names.specs.Opcodes.{mnemonics, mnemonic, opcodes}
use Rattle.names.specs.Labels.{labels, label_word}
use Rattle.operands.specs.declared.Address.{Address}
use Rattle.operands.specs.declared.BranchWord.{BranchWord}
use Rattle.operands.specs.declared.BranchWord.TheVariants as word
use Rattle.operands.specs.declared.Item.{Item}
use Rattle.operands.specs.declared.Shown.{Shown}
use Rattle.operands.specs.declared.Shown.TheVariants.{Nothing, Name, St, Number, Word, Dword, Bracket, Branch, Target}
use Rattle.operands.specs.declared.Label.{Label}
use Rattle.operands.specs.declared.Tail.{Tail}
use Rattle.operands.specs.declared.Tail.TheVariants as tail
use Rattle.places.specs.Labels.{label_number}
use Rattle.lines.specs.Fronts.{label_text, segment_text}
use Rattle.lines.specs.Brackets.{base_text, scale_text, indexed_text, index_text, tail_text, mask_text}
use Rattle.lines.specs.Items.{word_text, branch_text, target_text, shown_text, broadcast_text, item_text}
use Rattle.lines.specs.declared.Head.{Head}
use Rattle.lines.specs.declared.Line.{Line}
use Rattle.lines.specs.declared.Name.{Name as Mnemonic}
use Rattle.lines.specs.declared.Name.TheVariants.{Opcode, Feni, Fdisi, Fsetpm}
use Rattle.lines.specs.Text.{prefixes_text, name_text, head_text, shows, parted_text, tail_word, line_text, longest_line}
use Rattle.lines.proofs.Parts.{bracket_length, absolute-length, branch_length, target_length, item-length}
use Rattle.lines.proofs.Lengths.{prefixes_length, head_length, parted-length, items_length, line-length}

-- a text that stands only where it is called for is no longer than the text
when_most : (b : Bool) (t : List ℕ) → length (when b t) ≤ length t
when_most b t = omega (arith, length-when b t, cond_most b (length t))

pub register_short : (r : ℕ) → length (register_name r) ≤ 5
unfolding register_name registers
register_short r = no_longer 5 registers tt r

pub label_short : (l : Label) → length (label_text l) ≤ 12
unfolding label_text label_word labels
label_short l = no_longer 12 labels tt (label_number l)

segment_name_short : (s : ℕ) → length (segment_name s) ≤ 2
unfolding segment_name segments
segment_name_short s = no_longer 2 segments tt s

pub segment_short : (s : ℕ) → length (segment_text s) ≤ 3
unfolding segment_text
segment_short s =
    omega (arith, when_most (ltb 0 s) (segment_name s ++ bytes ":"), length-append (segment_name s) (bytes ":"), segment_name_short s)

scale_short : (s : ℕ) → length (scale_text s) ≤ 4
unfolding scale_text
scale_short s =
    omega (arith, when_most (ltb 1 s) (bytes " * " ++ digits 1 s), length-append (bytes " * ") (digits 1 s), length_digits 1 s)

index_short : (a : Address) → length (index_text a) ≤ 12
unfolding index_text indexed_text
index_short a =
    let plus = when a.based (bytes " + ") in
    let name = register_name a.index in
    let scale = scale_text a.scale in
    omega (
      arith,
      when_most a.indexed (plus ++ (name ++ scale)),
      length-append plus (name ++ scale),
      length-append name scale,
      when_most a.based (bytes " + "),
      register_short a.index,
      scale_short a.scale,
    )

base_short : (based : Bool) (base : ℕ) → length (base_text based base) ≤ 5
unfolding base_text
base_short based base = omega (arith, when_most based (register_name base), register_short base)

tail_short : (displaced : Bool) (d : ℤ) → length (tail_text displaced d) ≤ 14
unfolding tail_text
tail_short displaced d =
    let shown = bytes " " ++ displacement d in
    omega (
      arith,
      length-append (when displaced shown) (bytes "]"),
      when_most displaced shown,
      length-append (bytes " ") (displacement d),
      displacement_short d,
    )

-- `near ptr ` is the longest word
word_most : (w : BranchWord) → length (word_text w) ≤ 9
word_most word.None = lit≤ tt
word_most word.Short = lit≤ tt
word_most word.Near = lit≤ tt

pub branch_short : (w : BranchWord) (minus : Bool) (size : ℕ) → length (branch_text w minus size) ≤ 21
branch_short w minus size = omega (arith, branch_length w minus size, word_most w, numeral_short size)

pub target_short : (w : BranchWord) (target : ℕ) → length (target_text w target) ≤ 19
target_short w target = omega (arith, target_length w target, word_most w, absolute_short 8 target)

shown_short : (s : Shown) → length (shown_text s) ≤ 32
unfolding shown_text
shown_short Nothing = lit≤ tt
shown_short (Name r) = omega (arith, register_short r)
shown_short St = lit≤ tt
shown_short (Number v) = omega (arith, numeral_short v)
shown_short (Word v) = omega (arith, absolute-length 4 v, absolute_short 4 v)
shown_short (Dword v) = omega (arith, absolute-length 8 v, absolute_short 8 v)
shown_short (Bracket a) =
    omega (arith, bracket_length a, base_short a.based a.base, index_short a, tail_short a.displaced a.disp)
shown_short (Branch w minus size) = omega (arith, branch_short w minus size)
shown_short (Target w target) = omega (arith, target_short w target)

-- `{k1}`
mask_short : (m : ℕ) → length (mask_text m) ≤ 7
unfolding mask_text
mask_short m =
    omega (
      arith,
      when_most (ltb 0 m) (bytes "{" ++ (register_name m ++ bytes "}")),
      length-append (bytes "{") (register_name m ++ bytes "}"),
      length-append (register_name m) (bytes "}"),
      register_short m,
    )

within_short : (k n : ℕ) → length (decimal_within k n) ≤ k
unfolding decimal_within
within_short zero n = lit≤ tt
within_short (suc k) n =
    cond_by (λ (t : List ℕ). length t ≤ suc k) (ltb n 10) (λ e. omega arith)
    (λ e. omega (arith, length-append (decimal_within k (n / 10)) ((48 + n % 10) ∷ []), within_short k (n / 10)))

-- `{1to16}`
broadcast_short : (b : Option ℕ) → length (broadcast_text b) ≤ 7
unfolding broadcast_text
broadcast_short None = lit≤ tt
broadcast_short (Some n) =
    omega (
      arith,
      length-append (bytes "{1to") (decimal_within 2 n ++ bytes "}"),
      length-append (decimal_within 2 n) (bytes "}"),
      within_short 2 n,
    )

pub item_short : (i : Item) → length (item_text i) ≤ 61
item_short i =
    omega (
      arith,
      item-length i,
      label_short i.label,
      segment_short i.segment,
      shown_short i.shown,
      mask_short i.mask,
      broadcast_short i.broadcast,
    )

-- the head
name_short : (n : Mnemonic) → length (name_text n) ≤ 13
unfolding name_text mnemonic mnemonics opcodes
name_short (Opcode k) = no_longer 13 mnemonics tt k
name_short Feni = lit≤ tt
name_short Fdisi = lit≤ tt
name_short Fsetpm = lit≤ tt

prefixes_short : (h : Head) → length (prefixes_text h) ≤ 33
prefixes_short h =
    omega (
      arith,
      prefixes_length h,
      cond_most h.xacquire 9,
      cond_most h.xrelease 9,
      cond_most h.lock 5,
      cond_most h.rep 4,
      cond_most h.repne 6,
    )

pub head_short : (h : Head) → length (head_text h) ≤ 47
head_short h = omega (arith, head_length h, prefixes_short h, name_short h.name, cond_most h.suffix 1)

parted_short : (s : List ℕ) (i : Item) → length (parted_text s i) ≤ length s + 61
parted_short s i =
    omega (arith, parted-length s i, cond_most (shows i.shown) (length s + length (item_text i)), item_short i)

-- ` {rn-sae}`
pub tail_word_short : (t : Tail) → length (tail_word t) ≤ 9
unfolding tail_word
tail_word_short tail.None = lit≤ tt
tail_word_short tail.Sae = lit≤ tt
tail_word_short tail.Nearest = lit≤ tt
tail_word_short tail.Down = lit≤ tt
tail_word_short tail.Up = lit≤ tt
tail_word_short tail.Zero = lit≤ tt

pub line_short : (l : Line) → length (line_text l) ≤ longest_line
line_short l =
    let is = l.items in
    omega (
      arith,
      line-length l,
      head_short l.head,
      items_length is,
      parted_short (bytes " ") is.a,
      parted_short (bytes ", ") is.b,
      parted_short (bytes ", ") is.c,
      parted_short (bytes ", ") is.d,
      tail_word_short l.tail,
    )
