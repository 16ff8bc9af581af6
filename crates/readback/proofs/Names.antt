-- The names of the tables are what MASM's reader takes them for: registers, segments, labels, prefix words and mnemonics.
-- Each rule is one test that is computed over the whole table.
-- Assumes nothing.
use mathlib.Core.Path.{◌≡◌, refl}
use mathlib.Core.Bool.{Bool, true, false, ◌||◌, ◌&&◌}
use mathlib.Core.List.{List, [], ◌∷◌, ◌++◌, append-nil}
use mathlib.Core.Logic.{inl, inr}
use mathlib.Core.Option.{some}
use Prim.Native.Nat.{ℕ, zero, suc, ◌+◌, ◌-◌, ◌≤◌, ◌<◌}
use native.Mathlib.Omega.{arith}
use borrow.Author.Tests.{lt-ltb, ne_eqb}
use lib.Dec.{T, eqb}
use Rattle.text.specs.Choice.{when}
use Rattle.text.specs.Words.{bytes}
use Rattle.names.specs.Opcodes.{opcode_count, opcodes, mnemonics, mnemonic}
use Rattle.names.specs.Labels.{labels as label_names, label_word}
use Rattle.names.specs.Registers.{registers as register_names, register_name, segments as segment_names, segment_name}
use Rattle.operands.specs.declared.Label.{Label}
use Rattle.operands.specs.declared.Label.TheVariants as label
use Rattle.std.specs.Prelude.{Option as Optional, Some, None}
use Rattle.operands.specs.declared.Tail.{Tail}
use Rattle.operands.specs.declared.Tail.TheVariants as tail
use Rattle.bodies.specs.WellFormed.{IndexKept}
use Rattle.numerals.specs.Decimals.{decimal_within}
use Rattle.lines.specs.Fronts.{label_text, segment_text}
use Rattle.lines.specs.Brackets.{mask_text}
use Rattle.lines.specs.Items.{broadcast_text}
use Rattle.lines.specs.Text.{name_text, tail_word}
use Rattle.lines.specs.declared.Name.{Name as Mnemonic}
use Rattle.lines.specs.declared.Name.TheVariants.{Opcode, Feni, Fdisi, Fsetpm}
use Rattle.masm.specs.Tokens.{word, tokens, lookup}
use Rattle.masm.specs.Expressions.{numeral, decimal, registers}
use Rattle.masm.specs.Operands.{widths, labels, synonyms, segments}
use Rattle.masm.specs.Lines.{Prefix, prefix_words, Xacquire, Xrelease, Lock, Rep, Repne}
use Rattle.masm.proofs.Tokens.{both, apart, leads_apart}
use Rattle.masm.proofs.Numerals.{below, below_at}
use Rattle.masm.proofs.Expressions.{RegisterText}
use Rattle.masm.proofs.Decorations.{MaskText, no_mask, mask_name, BroadcastText, no_broadcast, broadcast_text_lem, TailText, no_tail, sae_tail, nearest_tail, down_tail, up_tail, zero_tail}
use Rattle.masm.proofs.Leaves.{is_alone, register_text_lem, is_decimal, decimal_text, is_inside, inside_text_lem, segment_text_lem, no_segment, label_text_lem, is_mnemonic, mnemonic_text}
use Rattle.masm.proofs.Texts.{RegisterOperandText, SegmentText, LabelText, no_label, MnemonicText, PrefixText}
use Rattle.readback.specs.Meaning.{segment_of, label_of, mask_of, copies_of, tail_of, name_of}
use Rattle.readback.proofs.Sound.{Named, SoundMask, SoundBroadcast, SoundName, is_missing}

-- ---- Registers

unless : (p q t : Bool) → p ≡ false → q ≡ false → T (p || q || t) → T t
unless p q t e k h = rw (e, k) at h

registers-read : (start : ℕ) → T (below 80 (λ r. eqb r 30 || eqb r 31 || is_alone start r (register_name r)))
unfolding is_alone tokens widths labels synonyms registers register_name register_names
registers-read start = tt

pub register_name_lem : {r : ℕ} → Named r → RegisterOperandText r (register_name r)
register_name_lem {r} n =
    register_text_lem
    (λ start.
    unless (eqb r 30) (eqb r 31) (is_alone start r (register_name r)) (ne_eqb r 30 n.not_30) (ne_eqb r 31 n.not_31)
    (below_at 80 (λ r. eqb r 30 || eqb r 31 || is_alone start r (register_name r)) (registers-read start) r n.below))

pub st_name : RegisterOperandText 32 (bytes "st")
unfolding is_alone tokens widths labels synonyms registers
st_name = register_text_lem (λ start. tt)

-- in a bracket
inside_read : T (below 16 (λ r. is_inside r (register_name r)))
unfolding is_inside tokens numeral registers register_name register_names
inside_read = tt

pub inside_name : {r : ℕ} → r < 16 → RegisterText r (register_name r)
inside_name {r} h = inside_text_lem (below_at 16 (λ r. is_inside r (register_name r)) inside_read r h)

-- xmm, ymm and zmm as an index
vectors-read : T (below 24 (λ k. is_inside (48 + k) (register_name (48 + k))))
unfolding is_inside tokens numeral registers register_name register_names
vectors-read = tt

vector_name : (k : ℕ) → k < 24 → RegisterText (48 + k) (register_name (48 + k))
vector_name k h = inside_text_lem (below_at 24 (λ k. is_inside (48 + k) (register_name (48 + k))) vectors-read k h)

pub index_name : {r : ℕ} → IndexKept r → RegisterText r (register_name r)
index_name (inl h) = inside_name h
index_name {r} (inr h) =
    let place : 48 + (r - 48) ≡ r = omega (arith, h.0) in
    rw place at (vector_name (r - 48) (omega (arith, h.0, h.1)))

-- ---- Masks, broadcasts and tails

-- `{k0}` to `{k7}`
mask_parts : (k : ℕ) → k < 8 → mask_text (72 + k) ≡ bytes "{k" ++ ((48 + k) ∷ bytes "}")
unfolding mask_text register_name register_names
mask_parts zero h = refl
mask_parts (suc zero) h = refl
mask_parts (suc (suc zero)) h = refl
mask_parts (suc (suc (suc zero))) h = refl
mask_parts (suc (suc (suc (suc zero)))) h = refl
mask_parts (suc (suc (suc (suc (suc zero))))) h = refl
mask_parts (suc (suc (suc (suc (suc (suc zero)))))) h = refl
mask_parts (suc (suc (suc (suc (suc (suc (suc zero))))))) h = refl
mask_parts (suc (suc (suc (suc (suc (suc (suc (suc k)))))))) h = absurd (omega arith)

mask_at_lem : (k : ℕ) → k < 8 → MaskText (mask_of (72 + k)) (mask_text (72 + k))
mask_at_lem k h =
    let e : mask_of (72 + k) ≡ some (72 + k) = rw (lt-ltb 0 (72 + k) (omega arith)) in
    rw (e, mask_parts k h) (mask_name k h)

pub mask_shown_lem : (mask : ℕ) → SoundMask mask → MaskText (mask_of mask) (mask_text mask)
unfolding mask_text
mask_shown_lem mask (inl e) = rw e no_mask
mask_shown_lem mask (inr h) =
    let place : 72 + (mask - 72) ≡ mask = omega (arith, h.0) in
    rw place at (mask_at_lem (mask - 72) (omega (arith, h.0, h.1)))

-- N, of one digit or two
decimals_read : T (below 17 (λ n. is_decimal n (decimal_within 2 n)))
unfolding is_decimal decimal decimal_within
decimals_read = tt

pub broadcast_shown_lem : (b : Optional ℕ) → SoundBroadcast b → BroadcastText (copies_of b) (broadcast_text b)
unfolding broadcast_text
broadcast_shown_lem None h = no_broadcast
broadcast_shown_lem (Some n) h = broadcast_text_lem (decimal_text (below_at 17 (λ n. is_decimal n (decimal_within 2 n)) decimals_read n (omega (arith, h))))

pub tail_shown : (t : Tail) → TailText (tail_of t) (tail_word t)
unfolding tail_word
tail_shown tail.None = no_tail
tail_shown tail.Sae = sae_tail
tail_shown tail.Nearest = nearest_tail
tail_shown tail.Down = down_tail
tail_shown tail.Up = up_tail
tail_shown tail.Zero = zero_tail

-- ---- Segments

pub segment_name_lem : (s : ℕ) → s ≤ 6 → SegmentText (segment_of s) (segment_text s)
unfolding segment_text segment_name segment_names tokens widths labels synonyms segments registers
segment_name_lem zero h = no_segment
segment_name_lem (suc zero) h = segment_text_lem (bytes "es") tt refl (λ start ts. refl) (λ start l ts. refl)
segment_name_lem (suc (suc zero)) h = segment_text_lem (bytes "cs") tt refl (λ start ts. refl) (λ start l ts. refl)
segment_name_lem (suc (suc (suc zero))) h = segment_text_lem (bytes "ss") tt refl (λ start ts. refl) (λ start l ts. refl)
segment_name_lem (suc (suc (suc (suc zero)))) h = segment_text_lem (bytes "ds") tt refl (λ start ts. refl) (λ start l ts. refl)
segment_name_lem (suc (suc (suc (suc (suc zero))))) h = segment_text_lem (bytes "fs") tt refl (λ start ts. refl) (λ start l ts. refl)
segment_name_lem (suc (suc (suc (suc (suc (suc zero)))))) h = segment_text_lem (bytes "gs") tt refl (λ start ts. refl) (λ start l ts. refl)
segment_name_lem (suc (suc (suc (suc (suc (suc (suc s))))))) h = absurd (omega arith)

-- ---- Labels

pub label_name : (l : Label) → is_missing l ≡ false → LabelText (label_of l) (label_text l)
unfolding label_text label_word label_names tokens widths labels synonyms
label_name label.None h = no_label
label_name label.Byte h = label_text_lem (bytes "byte") tt refl (λ start ts. refl)
label_name label.Word h = label_text_lem (bytes "word") tt refl (λ start ts. refl)
label_name label.Dword h = label_text_lem (bytes "dword") tt refl (λ start ts. refl)
label_name label.Qword h = label_text_lem (bytes "qword") tt refl (λ start ts. refl)
label_name label.Xmmword h = label_text_lem (bytes "xmmword") tt refl (λ start ts. refl)
label_name label.Ymmword h = label_text_lem (bytes "ymmword") tt refl (λ start ts. refl)
label_name label.Zmmword h = label_text_lem (bytes "zmmword") tt refl (λ start ts. refl)
label_name label.Mmword h = label_text_lem (bytes "mmword") tt refl (λ start ts. refl)
label_name label.Fword h = label_text_lem (bytes "fword") tt refl (λ start ts. refl)
label_name label.Tbyte h = label_text_lem (bytes "tbyte") tt refl (λ start ts. refl)
label_name label.Missing h = no_label

-- ---- Prefix words

-- a prefix word and a blank
prefix_word : (w t : List ℕ) (p : Prefix) → T (apart t) → tokens t ≡ word w ∷ [] → lookup prefix_words (word w ∷ []) ≡ some p → PrefixText p t
prefix_word w t p a e n = record { lead = w; leads = rw e at (leads_apart t a); names = n }

pub xacquire : PrefixText Xacquire (bytes "xacquire ")
unfolding tokens prefix_words
xacquire = prefix_word (bytes "xacquire") (bytes "xacquire ") Xacquire tt refl refl

pub xrelease : PrefixText Xrelease (bytes "xrelease ")
unfolding tokens prefix_words
xrelease = prefix_word (bytes "xrelease") (bytes "xrelease ") Xrelease tt refl refl

pub lock : PrefixText Lock (bytes "lock ")
unfolding tokens prefix_words
lock = prefix_word (bytes "lock") (bytes "lock ") Lock tt refl refl

pub rep : PrefixText Rep (bytes "rep ")
unfolding tokens prefix_words
rep = prefix_word (bytes "rep") (bytes "rep ") Rep tt refl refl

pub repne : PrefixText Repne (bytes "repne ")
unfolding tokens prefix_words
repne = prefix_word (bytes "repne") (bytes "repne ") Repne tt refl refl

-- ---- Mnemonics

-- every opcode's name is a mnemonic, and so it is with a `d` after it
mnemonics-read : T (below opcode_count (λ k. is_mnemonic (mnemonic k) && is_mnemonic (mnemonic k ++ bytes "d")))
unfolding is_mnemonic tokens prefix_words mnemonic mnemonics opcodes
mnemonics-read = tt

opcode_name : (k : ℕ) (d : Bool) → k < opcode_count → T (is_mnemonic (mnemonic k ++ when d (bytes "d")))
opcode_name k true h =
    (both (is_mnemonic (mnemonic k)) (is_mnemonic (mnemonic k ++ bytes "d"))
    (below_at opcode_count (λ k. is_mnemonic (mnemonic k) && is_mnemonic (mnemonic k ++ bytes "d")) mnemonics-read k h)).1
opcode_name k false h =
    rw append-nil
    (both (is_mnemonic (mnemonic k)) (is_mnemonic (mnemonic k ++ bytes "d"))
    (below_at opcode_count (λ k. is_mnemonic (mnemonic k) && is_mnemonic (mnemonic k ++ bytes "d")) mnemonics-read k h)).0

name_read : (n : Mnemonic) (d : Bool) → SoundName n → T (is_mnemonic (name_of n ++ when d (bytes "d")))
unfolding is_mnemonic tokens prefix_words
name_read (Opcode k) d h = opcode_name k d h
name_read Feni true h = tt
name_read Feni false h = tt
name_read Fdisi true h = tt
name_read Fdisi false h = tt
name_read Fsetpm true h = tt
name_read Fsetpm false h = tt

name_text_lem : (n : Mnemonic) → name_text n ≡ name_of n
unfolding name_text
name_text_lem (Opcode k) = refl
name_text_lem Feni = refl
name_text_lem Fdisi = refl
name_text_lem Fsetpm = refl

pub mnemonic_name : (n : Mnemonic) (d : Bool) → SoundName n → MnemonicText (name_of n ++ when d (bytes "d")) (name_text n ++ when d (bytes "d"))
mnemonic_name n d h = rw (name_text_lem n) (mnemonic_text (name_read n d h))
