-- Each table keeps its rule, by one computed test, and what that says of each entry.
-- Assumes nothing.
use mathlib.Core.Path.{◌≡◌}
use mathlib.Core.Bool.{not, ◌&&◌, ◌||◌}
use mathlib.Core.List.{List, [], ◌∷◌}
use Prim.Native.Nat.{ℕ, zero, suc, suc-le-suc, ◌<◌}
use native.Mathlib.Nat.{lt_trans, not-suc-le-zero, le_of_suc-le-suc}
use borrow.Author.Tests.{ltb-true}
use lib.Dec.{T, leb, ltb}
use lib.ListN.{length, get_or}
use Rattle.text.specs.Words.{every, ascend, distinct, empty, starts}
use Rattle.text.proofs.Tables.{both_left, both_right, so, every_at, distinct_at}
use Rattle.names.specs.Opcodes.{mnemonics, mnemonic, opcodes}
use Rattle.names.specs.Registers.{segments, segment_name, registers, register_name}
use Rattle.names.specs.Rules.{letter, register_letter, name_of, names_rule, ascend_at_words, registers_rule}

-- the tables

pub mnemonics_keep : T (names_rule 13 mnemonics)
unfolding names_rule mnemonics opcodes
mnemonics_keep = tt

pub registers_keep : T (registers_rule registers)
unfolding registers_rule registers
registers_keep = tt

pub segments_keep : T (registers_rule segments)
unfolding registers_rule segments
segments_keep = tt

-- where every offset is below the next, each is
ascend_at : (xs : List ℕ) → T (ascend xs) → (k : ℕ) → suc k < length xs → get_or xs k 0 < get_or xs (suc k) 0
ascend_at [] t k h = absurd (not-suc-le-zero h)
ascend_at (a ∷ []) t k h = absurd (not-suc-le-zero (le_of_suc-le-suc h))
ascend_at (a ∷ b ∷ xs) t zero h = ltb-true a b (so (ltb a b) (both_left (ltb a b) (ascend (b ∷ xs)) t))
ascend_at (a ∷ b ∷ xs) t (suc k) h = ascend_at (b ∷ xs) (both_right (ltb a b) (ascend (b ∷ xs)) t) k (le_of_suc-le-suc h)

-- at each entry of a table of names
module _ (n : ℕ) (words : List (List ℕ)) (keep : T (names_rule n words)) where
  names_tested : T (every (name_of n) words)
  unfolding names_rule
  names_tested =
      both_right (ascend (starts 0 words)) (every (name_of n) words)
      (both_left (ascend (starts 0 words) && every (name_of n) words) (distinct words) keep)

  -- the offset of each is below that of the next
  pub offsets_ascend : (k : ℕ) → suc k < length (starts 0 words) → get_or (starts 0 words) k 0 < get_or (starts 0 words) (suc k) 0
  unfolding names_rule
  offsets_ascend k h =
      ascend_at (starts 0 words)
      (both_left (ascend (starts 0 words)) (every (name_of n) words)
      (both_left (ascend (starts 0 words) && every (name_of n) words) (distinct words) keep)) k h

  -- a name is there, has allowed letters alone, and is no longer than n
  pub name_passes : (k : ℕ) → k < length words → T (name_of n (get_or words k []))
  name_passes k h = every_at (name_of n) [] words names_tested k h

  pub name_some : (k : ℕ) → k < length words → T (not (empty (get_or words k [])))
  name_some k h =
      let w = get_or words k [] in
      both_left (not (empty w)) (every letter w) (both_left (not (empty w) && every letter w) (leb (length w) n) (name_passes k h))

  pub name_letters : (k : ℕ) → k < length words → T (every letter (get_or words k []))
  name_letters k h =
      let w = get_or words k [] in
      both_right (not (empty w)) (every letter w) (both_left (not (empty w) && every letter w) (leb (length w) n) (name_passes k h))

  -- the names at two places differ
  pub name_alone : (j k : ℕ) → j < k → k < length words → get_or words j [] ≡ get_or words k [] → ⊥
  unfolding names_rule
  name_alone j k l h e =
      distinct_at words (both_right (ascend (starts 0 words) && every (name_of n) words) (distinct words) keep) j k l h
      (name_some j (lt_trans l h)) e

-- the mnemonic of each opcode
pub mnemonic_some : (k : ℕ) → k < 176 → T (not (empty (mnemonic k)))
unfolding mnemonic mnemonics opcodes
mnemonic_some k h = name_some 13 mnemonics mnemonics_keep k h

pub mnemonic_letters : (k : ℕ) → k < 176 → T (every letter (mnemonic k))
unfolding mnemonic mnemonics opcodes
mnemonic_letters k h = name_letters 13 mnemonics mnemonics_keep k h

-- "offsets ascend", at each opcode
pub mnemonic_ascends : (k : ℕ) → k < 176 → get_or (starts 0 mnemonics) k 0 < get_or (starts 0 mnemonics) (suc k) 0
unfolding mnemonics opcodes
mnemonic_ascends k h = offsets_ascend 13 mnemonics mnemonics_keep k (suc-le-suc h)

-- two opcodes have two names
pub mnemonic_alone : (j k : ℕ) → j < k → k < 176 → mnemonic j ≡ mnemonic k → ⊥
unfolding mnemonic mnemonics opcodes
mnemonic_alone j k l h e = name_alone 13 mnemonics mnemonics_keep j k l h e

-- where the offsets of a table ascend at words, each word's offset is below the next one
words_ascend : (ws : List (List ℕ)) (xs : List ℕ) → T (ascend_at_words ws xs) → (k : ℕ) → T (not (empty (get_or ws k []))) → get_or xs k 0 < get_or xs (suc k) 0
words_ascend [] xs t k some = absurd some
words_ascend (w ∷ ws) [] t k some = absurd t
words_ascend (w ∷ ws) (a ∷ []) t k some = absurd t
words_ascend ([] ∷ ws) (a ∷ b ∷ xs) t zero some = absurd some
words_ascend ((c ∷ w) ∷ ws) (a ∷ b ∷ xs) t zero some = ltb-true a b (so (ltb a b) (both_left (ltb a b) (ascend_at_words ws (b ∷ xs)) t))
words_ascend (w ∷ ws) (a ∷ b ∷ xs) t (suc k) some =
    words_ascend ws (b ∷ xs) (both_right (empty w || ltb a b) (ascend_at_words ws (b ∷ xs)) t) k some

-- at each entry of a table in which some places stand for nothing
module _ (words : List (List ℕ)) (keep : T (registers_rule words)) where
  -- the offset of each that has a name is below that of the next
  pub named_ascends : (k : ℕ) → T (not (empty (get_or words k []))) → get_or (starts 0 words) k 0 < get_or (starts 0 words) (suc k) 0
  unfolding registers_rule
  named_ascends k some =
      words_ascend words (starts 0 words)
      (both_left (ascend_at_words words (starts 0 words)) (every (every register_letter) words)
      (both_left (ascend_at_words words (starts 0 words) && every (every register_letter) words) (distinct words) keep)) k some

  -- the names at two places differ
  pub named_alone : (j k : ℕ) → j < k → k < length words → T (not (empty (get_or words j []))) → get_or words j [] ≡ get_or words k [] → ⊥
  unfolding registers_rule
  named_alone j k l h some e =
      distinct_at words
      (both_right (ascend_at_words words (starts 0 words) && every (every register_letter) words) (distinct words) keep) j k l h some e

-- "offsets ascend", at each register byte that has a name: 30 and 31 have none
pub register_ascends : (k : ℕ) → T (not (empty (register_name k))) → get_or (starts 0 registers) k 0 < get_or (starts 0 registers) (suc k) 0
unfolding register_name
register_ascends k some = named_ascends registers registers_keep k some

-- and at each segment: the number 0 has no name
pub segment_ascends : (k : ℕ) → T (not (empty (segment_name k))) → get_or (starts 0 segments) k 0 < get_or (starts 0 segments) (suc k) 0
unfolding segment_name
segment_ascends k some = named_ascends segments segments_keep k some

-- two registers have two names
pub register_alone : (j k : ℕ) → j < k → k < 80 → T (not (empty (register_name j))) → register_name j ≡ register_name k → ⊥
unfolding register_name registers
register_alone j k l h some e = named_alone registers registers_keep j k l h some e
