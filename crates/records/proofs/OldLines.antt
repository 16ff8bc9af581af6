-- A printed record that is not extended shows nothing of document 02's.
-- Assumes nothing.
use mathlib.Core.Path.{◌≡◌, refl, sym, ◌∙◌}
use mathlib.Core.Bool.{false}
use mathlib.Core.List.{List}
use Prim.Native.Nat.{ℕ, zero, suc, ◌<◌}
use borrow.Author.Tests.{leb-false}
use Rattle.answers.specs.Refusals.{answer_of}
use Rattle.operands.specs.Parts.{operand_in, mask_of}
use Rattle.bodies.specs.Body.{opcode_of, is_extended}
use Rattle.bodies.specs.Decoding.{instruction_of}
use Rattle.bodies.specs.Versions.{start_of}
use Rattle.bodies.specs.Document01.{old_field_refused}
use Rattle.bodies.proofs.OldKept.{old_kept, old_flags}
use Rattle.bodies.proofs.Picks.{neither_left, neither_right}
use Rattle.places.specs.Places.{items_at}
use Rattle.places.proofs.Starts.{mask_unstarted, broadcast_unstarted}
use Rattle.arms.specs.Plans.{plan_of}
use Rattle.arms.specs.Decorations.{is_broadcast}
use Rattle.arms.proofs.PlainPlans.{is_scatter_arm, old_arm, plain_a, plain_b, plain_c, plain_d, plain_tail}
use Rattle.records.specs.declared.Asked.{Asked}
use Rattle.records.specs.Records.{mode_of, fields_of, arm_at, refusals, line_at}
use Rattle.records.specs.OldLines.{OldLine}
use Rattle.records.proofs.Judging.{unrefused}

module _ (asked : Asked) (body : List ℕ) (old : is_extended (fields_of asked body) ≡ false) (e : answer_of (refusals asked body) ≡ 0) where
  abbrev f : List ℕ
  f = fields_of asked body

  no_field : old_field_refused f ≡ false
  no_field = sym (old_kept f old).fields ∙ (unrefused asked body e).no_field

  opcode_below : opcode_of f < 154
  unfolding old_field_refused
  opcode_below = let kept = no_field in leb-false 154 (opcode_of f) (search (neither_left, neither_right, kept) depth 12)

  unmasked : (k : ℕ) → mask_of (operand_in (instruction_of f) k) ≡ 0
  unfolding instruction_of
  unmasked zero = (old_kept f old).masks 0
  unmasked (suc zero) = (old_kept f old).masks 1
  unmasked (suc (suc zero)) = (old_kept f old).masks 2
  unmasked (suc (suc (suc zero))) = (old_kept f old).masks 3
  unmasked (suc (suc (suc (suc k)))) = refl

  once : is_broadcast (instruction_of f) ≡ false
  unfolding instruction_of
  once = old_flags f old (unrefused asked body e).no_field

  no_scatter : is_scatter_arm (arm_at f) ≡ false
  unfolding instruction_of
  no_scatter = old_arm (opcode_of f) opcode_below

  pub old_line : OldLine (line_at asked body)
  unfolding line_at items_at
  old_line =
      let mode = mode_of asked in
      let arm = arm_at f in
      let i = instruction_of f in
      let start = start_of asked.version body in
      let p = plan_of arm i in
      let untailed = (old_kept f old).tail in
      let a = plain_a mode arm i unmasked no_scatter once untailed in
      let b = plain_b mode arm i unmasked no_scatter once untailed in
      let c = plain_c mode arm i unmasked no_scatter once untailed in
      let d = plain_d mode arm i unmasked no_scatter once untailed in
      record {
        a = (mask_unstarted mode arm start i p.a ∙ a.mask, broadcast_unstarted mode arm start i p.a ∙ a.broadcast);
        b = (mask_unstarted mode arm start i p.b ∙ b.mask, broadcast_unstarted mode arm start i p.b ∙ b.broadcast);
        c = (mask_unstarted mode arm start i p.c ∙ c.mask, broadcast_unstarted mode arm start i p.c ∙ c.broadcast);
        d = (mask_unstarted mode arm start i p.d ∙ d.mask, broadcast_unstarted mode arm start i p.d ∙ d.broadcast);
        tail = plain_tail mode arm i unmasked no_scatter once untailed;
      }
