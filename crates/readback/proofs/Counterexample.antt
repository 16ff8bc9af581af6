-- Document 01's `jmp $-80h`: mode 0 prints it for a record that goes forward, so that no start is read as the record's target.
-- Assumes nothing.
use mathlib.Core.Path.{◌≡◌, refl}
use mathlib.Core.List.{List, [], ◌∷◌}
use mathlib.Core.Logic.{inl, inr}
use mathlib.Core.Option.{Option}
use Prim.Native.Nat.{ℕ, zero, suc, ◌^◌}
use native.Mathlib.Omega.{arith}
use borrow.Author.Tests.{ltb-true}
use lib.Dec.{T, ltb, lit<}
use lib.Ieee.Bits.{is_true}
use Rattle.text.specs.Words.{bytes}
use Rattle.numerals.specs.Digits.{digit, digits, places_from, places}
use Rattle.numerals.specs.Numerals.{figure, numeral}
use Rattle.names.specs.Labels.{labels, label_word}
use Rattle.names.specs.Opcodes.{opcodes, arms, arm_of, mnemonics, mnemonic}
use Rattle.bodies.specs.Body.{place_of, any_masked, is_extended}
use Rattle.bodies.specs.Refusals.{length_refused, segment_kept, first_kept, second_kept, scale_kept, mask_kept, operand_refused, field_refused}
use Rattle.bodies.specs.Decoding.{immediate, operand_of, operand_at, instruction_of}
use Rattle.bodies.specs.Versions.{fields, record_of}
use Rattle.bodies.specs.WellFormed.{Bytes}
use Rattle.branches.specs.Sums.{signed, branch_sum, branch_shown}
use Rattle.places.specs.Places.{item_at, items_at}
use Rattle.arms.specs.Decorations.{broadcast_refused}
use Rattle.arms.specs.Plans.{places_of, decorated, plan_of}
use Rattle.arms.specs.Shape.{shape_refused}
use Rattle.arms.specs.Size.{size_refused}
use Rattle.lines.specs.Fronts.{label_text, segment_text}
use Rattle.lines.specs.Head.{head_of}
use Rattle.lines.specs.Brackets.{mask_text}
use Rattle.lines.specs.Items.{branch_text, shown_text, broadcast_text, item_text}
use Rattle.lines.specs.Text.{reps_text, prefixes_text, name_text, head_text, parted_text, items_text, tail_word, line_text}
use Rattle.records.specs.Compared.{asking, jmp}
use Rattle.records.specs.Records.{asked_refused, refusals, line_at, record_text}
use Rattle.masm.specs.Operands.{Width}
use Rattle.masm.proofs.Tokens.{both, all}
use Rattle.readback.specs.Printed.{Printed}
use Rattle.readback.specs.Targets.{short, record_target, BranchesTo}
use Rattle.readback.proofs.Branching.{mode_0_only}

-- JMP of kind 3 and length 2, 126
abbrev pub short_jump : List ℕ
short_jump = jmp 3 2 (0 ∷ 0 ∷ 0 ∷ 126 ∷ [])

-- a list of bytes
bytes_tested : (xs : List ℕ) → T (all (λ b. ltb b (2 ^ 8)) xs) → Bytes xs
bytes_tested [] h at = lit< tt
bytes_tested (x ∷ xs) h zero = let (a, b) = both (ltb x (2 ^ 8)) (all (λ b. ltb b (2 ^ 8)) xs) h in ltb-true x (2 ^ 8) (is_true (ltb x (2 ^ 8)) a)
bytes_tested (x ∷ xs) h (suc at) = let (a, b) = both (ltb x (2 ^ 8)) (all (λ b. ltb b (2 ^ 8)) xs) h in bytes_tested xs b at

-- the body is printed in mode 0
pub jump-printed : Printed (asking 0) short_jump
unfolding refusals asked_refused fields place_of any_masked is_extended mask_kept broadcast_refused length_refused field_refused operand_refused segment_kept first_kept second_kept scale_kept instruction_of operand_at operand_of immediate shape_refused size_refused arm_of arms opcodes
jump-printed = record { bytes = bytes_tested short_jump tt; accepted = refl }

pub jump_text : record_text (asking 0) short_jump ≡ bytes "jmp $-80h"
unfolding record_text line_at fields place_of any_masked is_extended places_of decorated tail_word mask_text broadcast_text instruction_of operand_at operand_of immediate arm_of arms opcodes plan_of items_at item_at branch_shown branch_sum signed head_of line_text head_text prefixes_text reps_text name_text mnemonic mnemonics items_text parted_text item_text label_text label_word labels segment_text shown_text branch_text numeral figure places places_from digits digit
jump_text = refl

-- and is read as a branch to the record's target from no start
pub jump_misread : {width : Option Width} (start : ℕ)
    → BranchesTo start (record_text (asking 0) short_jump) width (record_target start (record_of 1 short_jump)) → ⊥
unfolding signed fields place_of any_masked is_extended instruction_of operand_at operand_of immediate
jump_misread start b = elim (mode_0_only jump-printed refl (short (lit< tt) refl) start b) [ inl e ↦ omega arith | inr f ↦ omega arith ]
