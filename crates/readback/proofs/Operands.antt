-- Each operand of a line is read as what it shows.
-- Assumes nothing.
use mathlib.Core.Path.{◌≡◌, refl, ap, ap₂, fun_ext, ◌∙◌}
use mathlib.Core.Bool.{Bool, true, false, cond, true≢false}
use mathlib.Core.List.{List, [], ◌∷◌, ◌++◌, append_assoc, append-nil}
use mathlib.Core.Option.{none}
use Prim.Native.Nat.{ℕ, suc, ◌%◌, ◌^◌, ◌<◌, ◌≤◌}
use native.Mathlib.Nat.{zero-add}
use native.Mathlib.Omega.{arith}
use lib.IntN.{ℤ, pos, ◌+ℤ◌}
use Rattle.numerals.specs.Numerals.{numeral}
use Rattle.operands.specs.declared.Address.{Address}
use Rattle.operands.specs.declared.Label.{Label}
use Rattle.std.specs.Prelude.{Option as Optional}
use Rattle.operands.specs.declared.BranchWord.{BranchWord}
use Rattle.operands.specs.declared.BranchWord.TheVariants as word
use Rattle.operands.specs.declared.Shown.{Shown}
use Rattle.operands.specs.declared.Shown.TheVariants.{Nothing, Name, St, Number, Word, Dword, Bracket, Branch, Target}
use Rattle.operands.specs.declared.Item.{Item}
use Rattle.branches.specs.Sums.{modulo}
use Rattle.names.specs.Labels.{labels, label_word}
use Rattle.lines.specs.Fronts.{label_text, segment_text}
use Rattle.lines.specs.Brackets.{bracket_text, mask_text}
use Rattle.lines.specs.Items.{absolute_text, word_text, branch_text, target_text, shown_text, broadcast_text, item_text}
use Rattle.bodies.specs.WellFormed.{AddressKept}
use Rattle.lines.specs.Text.{shows}
use Rattle.masm.specs.Expressions.{Register, constant}
use Rattle.masm.specs.Operands.{Operand, plain, branch, address, times_in, wrapped}
use Rattle.masm.proofs.Expressions.{number_term, term_sum}
use Rattle.masm.proofs.Texts.{BareText, OperandText, decorated-operand, number-operand, plain-operand, register_operand, WidthText, no_width_word, short_word, near_word, branch_operand, bare_address}
use Rattle.readback.specs.Meaning.{by_sign, width_of, label_of, segment_of, mask_of, copies_of, times_of, added_of, item_of}
use Rattle.readback.proofs.Sound.{SoundMask, SoundBroadcast, Bare, SoundItem, is_missing, is_nothing}
use Rattle.readback.proofs.Numbers.{numeral_text, absolute_text_lem}
use Rattle.readback.proofs.Names.{register_name_lem, st_name, segment_name_lem, label_name, mask_shown_lem, broadcast_shown_lem}
use Rattle.readback.proofs.Modulo.{wrapped-modulo}
use Rattle.readback.proofs.Addresses.{Adds, bracket_parts, bracket_adds}

-- ---- Addresses

-- a label, a segment and a sum in brackets
module _ (start : ℕ) (l : Label) (s : ℕ) (known : is_missing l ≡ false) (few : s ≤ 6) where
  address_text : {times : Register → ℕ} {d : ℤ} {u : List ℕ} → Adds times d u
      → BareText start (address (label_of l) (segment_of s) times (modulo d) none none) (label_text l ++ (segment_text s ++ (91 ∷ u ++ (93 ∷ []))))
  address_text {times} {d} {u} a =
      let zero = a.sum (constant (pos 0)) in
      let e : address (label_of l) (segment_of s) (times_in zero.counts) (wrapped zero.number) none none ≡ address (label_of l) (segment_of s) times (modulo d) none none
      = ap₂ (λ (f : Register → ℕ) (n : ℕ). address (label_of l) (segment_of s) f n none none) (fun_ext a.counted) (ap wrapped a.added ∙ wrapped-modulo d) in
      rw e at (bare_address {start = start} (label_name l known) (segment_name_lem s few) a.text a.no_start)

  -- a mask and a broadcast after it
  module _ (mask : ℕ) (b : Optional ℕ) (m : SoundMask mask) (n : SoundBroadcast b) where
    decorated_address : {times : Register → ℕ} {d : ℕ} (t : List ℕ) → BareText start (address (label_of l) (segment_of s) times d none none) (label_text l ++ (segment_text s ++ t))
        → OperandText start (address (label_of l) (segment_of s) times d (mask_of mask) (copies_of b)) (label_text l ++ (segment_text s ++ (t ++ (mask_text mask ++ broadcast_text b))))
    decorated_address t r = simp append_assoc at (decorated-operand r (mask_shown_lem mask m) (broadcast_shown_lem b n))

    -- the twelve forms: a bracket, with a mask after it or none
    bracket_operand : (a : Address) → AddressKept a
        → OperandText start (address (label_of l) (segment_of s) (times_of a) (modulo (added_of a)) (mask_of mask) (copies_of b)) (label_text l ++ (segment_text s ++ (bracket_text a ++ (mask_text mask ++ broadcast_text b))))
    bracket_operand a k = decorated_address (bracket_text a) (rw (bracket_parts a) (address_text (bracket_adds a k)))

    absolute-operand : (v : ℕ) (j : ℕ) → v < 16 ^ suc j → v < 2 ^ 32
        → OperandText start (address (label_of l) (segment_of s) (λ r. 0) (v % 2 ^ 32) (mask_of mask) (copies_of b)) (label_text l ++ (segment_text s ++ (absolute_text (suc j) v ++ (mask_text mask ++ broadcast_text b))))
    unfolding absolute_text
    absolute-operand v j h k =
        decorated_address _
        (rw (zero-add v) at (bare_address {start = start} (label_name l known) (segment_name_lem s few) (term_sum (number_term (absolute_text_lem j v h k))) refl))

-- ---- Branches and targets

word_width : (w : BranchWord) → WidthText (width_of w) (word_text w)
word_width word.None = no_width_word
word_width word.Short = short_word
word_width word.Near = near_word

branch_parts : (w : BranchWord) (minus : Bool) (size : ℕ) → branch_text w minus size ≡ word_text w ++ (36 ∷ cond minus 45 43 ∷ numeral size)
unfolding branch_text
branch_parts w false size = refl
branch_parts w true size = refl

branch_shown_lem : (start : ℕ) (w : BranchWord) (minus : Bool) (size : ℕ) → size < 2 ^ 32
    → OperandText start (branch (width_of w) (modulo (pos start +ℤ by_sign minus size))) (branch_text w minus size)
branch_shown_lem start w minus size h =
    rw (branch_parts w minus size, ← (wrapped-modulo (pos start +ℤ by_sign minus size))) (branch_operand minus (word_width w) (numeral_text size h))

target_shown : (start : ℕ) (w : BranchWord) (target : ℕ) → target < 2 ^ 32
    → OperandText start (plain (width_of w) (target % 2 ^ 32)) (target_text w target)
unfolding target_text
target_shown start w target h = plain-operand (word_width w) (absolute_text_lem 7 target h h)

-- ---- Items

-- the item shows an operand, and its text is read as that operand
pub record ReadAs (start : ℕ) (x : Item) : Type 0 where
  pub operand : Operand
  pub is_shown_lem : shows x.shown ≡ true
  pub one : item_of start x ≡ operand ∷ []
  pub text : OperandText start operand (item_text x)

-- with nothing before it and nothing after it, the text is that of what is shown
bare_text : (x : Item) → Bare x → item_text x ≡ shown_text x.shown
unfolding item_text label_text label_word labels segment_text mask_text broadcast_text
bare_text x e = rw (e.label, e.segment, e.mask, e.broadcast) (append-nil (shown_text x.shown))

module _ (start : ℕ) (l : Label) (s mask : ℕ) (b : Optional ℕ) (known : is_missing l ≡ false) where
  abbrev with_shown : Shown → Item
  with_shown x = record { label = l; segment = s; shown = x; mask = mask; broadcast = b }

  bare-read : (x : Shown) (o : Operand) → Bare (with_shown x) → shows x ≡ true → item_of start (with_shown x) ≡ o ∷ []
      → OperandText start o (shown_text x) → ReadAs start (with_shown x)
  bare-read x o e k h t = record { operand = o; is_shown_lem = k; one = h; text = rw (bare_text (with_shown x) e) t }

  shown_read : {k : Bool} (x : Shown) → SoundItem k (with_shown x) → is_nothing x ≡ false → ReadAs start (with_shown x)
  unfolding item_text shown_text
  shown_read Nothing i k = absurd (true≢false k)
  shown_read (Name reg) i k = bare-read (Name reg) _ (i.bare refl) refl refl (register_operand (register_name_lem i.shown))
  shown_read St i k = bare-read St _ (i.bare refl) refl refl (register_operand st_name)
  shown_read (Number value) i k = bare-read (Number value) _ (i.bare refl) refl refl (number-operand (numeral_text value i.shown))
  shown_read (Word value) i k =
      record { operand = _; is_shown_lem = refl; one = refl; text = absolute-operand start l s known i.segment mask b i.mask i.broadcast value 3 i.shown (omega (arith, i.shown)) }
  shown_read (Dword value) i k =
      record { operand = _; is_shown_lem = refl; one = refl; text = absolute-operand start l s known i.segment mask b i.mask i.broadcast value 7 i.shown i.shown }
  shown_read (Bracket a) i k =
      record { operand = _; is_shown_lem = refl; one = refl; text = bracket_operand start l s known i.segment mask b i.mask i.broadcast a i.shown }
  shown_read (Branch w minus size) i k = bare-read (Branch w minus size) _ (i.bare refl) refl refl (branch_shown_lem start w minus size i.shown)
  shown_read (Target w target) i k = bare-read (Target w target) _ (i.bare refl) refl refl (target_shown start w target i.shown)

pub item-read : {k : Bool} (start : ℕ) (x : Item) → SoundItem k x → is_missing x.label ≡ false → is_nothing x.shown ≡ false → ReadAs start x
item-read start x i known k = shown_read start x.label x.segment x.mask x.broadcast known x.shown i k
