-- A record's line shows a branch exactly if the record is a branch record; in mode 2 none does.
-- Assumes nothing.
use mathlib.Core.Path.{◌≡◌, refl, sym, ap, ◌∙◌}
use mathlib.Core.Bool.{Bool, true, false, not, ◌&&◌, ◌||◌, true≢false}
use mathlib.Core.List.{List, [], ◌∷◌, ◌++◌}
use mathlib.Core.Logic.{inl, inr, ◌↔◌}
use mathlib.Core.Option.{Option, none, some}
use Prim.Native.Nat.{ℕ, ◌%◌, ◌^◌, ◌≤◌, ◌<◌}
use native.Mathlib.Omega.{arith}
use borrow.Author.Tests.{ltb-true, eqb-true}
use lib.Dec.{T, ltb, eqb}
use lib.Ieee.Bits.{is_true}
use Rattle.operands.specs.declared.Instruction.{Instruction}
use Rattle.operands.specs.declared.Label.{Label}
use Rattle.std.specs.Prelude.{Option as Optional}
use Rattle.operands.specs.declared.Shown.{Shown}
use Rattle.operands.specs.declared.Shown.TheVariants.{Nothing, Name, St, Number, Word, Dword, Bracket, Branch as BranchShown, Target}
use Rattle.operands.specs.declared.Item.{Item}
use Rattle.operands.specs.Kinds.{i8, i32}
use Rattle.bodies.specs.Versions.{record_of}
use Rattle.bodies.proofs.Picks.{neither_left, neither_right, either, both_left, both_right}
use Rattle.names.specs.Opcodes.{opcode_count, opcodes, arms, arm_of}
use Rattle.operands.specs.Parts.{immediate_kind}
use Rattle.arms.specs.Tests.{is_branch, is_xbegin}
use Rattle.names.specs.declared.Arm.TheVariants.{Xbegin}
use Rattle.names.specs.Among.{is_arm}
use Rattle.lines.specs.declared.Line.{Line}
use Rattle.records.specs.Records.{fields_of, arm_at, line_at, record_text}
use Rattle.records.specs.declared.Asked.{Asked}
use Rattle.masm.specs.Operands.{Operand, Width, plain}
use Rattle.masm.specs.Lines.{Line as Read}
use Rattle.masm.proofs.Numerals.{below, below_at}
use Rattle.readback.specs.Meaning.{width_of, operand_of, item_of, meaning}
use Rattle.readback.specs.Printed.{Printed}
use Rattle.readback.specs.Targets.{BranchRecord, short, long, is_target, any_target, ShowsBranch, straight_width}
use Rattle.readback.proofs.Sound.{is_branch_shown, SoundItem, Sound}
use Rattle.readback.proofs.Lines.{implied}
use Rattle.readback.proofs.Arms.{is_relative, branches}
use Rattle.readback.proofs.Readback.{well, sound, reads_back}
use Rattle.readback.proofs.Branching.{sum-asked, one_branch}
use Rattle.readback.proofs.Targets.{one_number}

-- ---- A line of which no operand is a branch

any_append : (xs ys : List Operand) → any_target xs ≡ false → any_target ys ≡ false → any_target (xs ++ ys) ≡ false
any_append [] ys e f = f
any_append (x ∷ xs) ys e f =
    rw (neither_left (is_target x) (any_target xs) e) (any_append xs ys (neither_right (is_target x) (any_target xs) e) f)

-- a plain number is no branch
plain_no_target : (width : Option Width) (n : ℕ) → any_target (plain width n ∷ []) ≡ false
plain_no_target none n = refl
plain_no_target (some width) n = refl

shown_target : (start : ℕ) (l : Label) (s mask : ℕ) (b : Optional ℕ) (x : Shown) → is_branch_shown x ≡ false → any_target (operand_of start l s mask b x) ≡ false
shown_target start l s mask b Nothing e = refl
shown_target start l s mask b (Name reg) e = refl
shown_target start l s mask b St e = refl
shown_target start l s mask b (Number value) e = refl
shown_target start l s mask b (Word address) e = refl
shown_target start l s mask b (Dword address) e = refl
shown_target start l s mask b (Bracket address) e = refl
shown_target start l s mask b (BranchShown word minus size) e = absurd (true≢false e)
shown_target start l s mask b (Target word target) e = plain_no_target (width_of word) (target % 2 ^ 32)

is_no_branch : (b : Bool) → (b ≡ true → false ≡ true) → b ≡ false
is_no_branch true f = sym (f refl)
is_no_branch false f = refl

item_target : (start : ℕ) (x : Item) → SoundItem false x → any_target (item_of start x) ≡ false
item_target start x i = shown_target start x.label x.segment x.mask x.broadcast x.shown (is_no_branch (is_branch_shown x.shown) i.branch)

no_target : (start : ℕ) (l : Line) → Sound false l → any_target (meaning start l).operands ≡ false
unfolding meaning
no_target start l s =
    any_append (item_of start l.items.a) _ (item_target start l.items.a s.a)
    (any_append (item_of start l.items.b) _ (item_target start l.items.b s.b)
    (any_append (item_of start l.items.c) _ (item_target start l.items.c s.c) (item_target start l.items.d s.d)))

-- ---- Which opcodes have an arm that shows branches

relative_below : T (below opcode_count (λ k. not (is_relative (arm_of k)) || ltb k 22))
unfolding arm_of arms opcodes
relative_below = tt

xbegin_alone : T (below opcode_count (λ k. not (is_arm (arm_of k) Xbegin) || eqb k 22))
unfolding arm_of arms opcodes
xbegin_alone = tt

-- what the test says of an opcode
relative_if : (k : ℕ) → k < opcode_count → is_relative (arm_of k) ≡ true → k < 22
relative_if k h e =
    let t = below_at opcode_count (λ k. not (is_relative (arm_of k)) || ltb k 22) relative_below k h in
    ltb-true k 22 (implied (is_relative (arm_of k)) (ltb k 22) (is_true (not (is_relative (arm_of k)) || ltb k 22) t) e)

xbegin_if : (k : ℕ) → k < opcode_count → is_arm (arm_of k) Xbegin ≡ true → k ≡ 22
xbegin_if k h e =
    let t = below_at opcode_count (λ k. not (is_arm (arm_of k) Xbegin) || eqb k 22) xbegin_alone k h in
    eqb-true k 22 (implied (is_arm (arm_of k) Xbegin) (eqb k 22) (is_true (not (is_arm (arm_of k) Xbegin) || eqb k 22) t) e)

branch_record : (i : Instruction) → i.opcode < opcode_count → branches (arm_of i.opcode) i ≡ true → BranchRecord i
branch_record i h e =
    let arm = arm_of i.opcode in
    elim (either (is_relative arm && is_branch i.a) (is_arm arm Xbegin && is_xbegin i.a) e) [
      | inl f ↦
          let k = relative_if i.opcode h (both_left (is_relative arm) (is_branch i.a) f) in
          elim (either (eqb (immediate_kind i.a) i8) (eqb (immediate_kind i.a) i32) (both_right (is_relative arm) (is_branch i.a) f)) [
            | inl g ↦ short k (eqb-true (immediate_kind i.a) i8 g)
            | inr g ↦ long (omega arith) (eqb-true (immediate_kind i.a) i32 g)
          ]
      | inr f ↦
          let k = xbegin_if i.opcode h (both_left (is_arm arm Xbegin) (is_xbegin i.a) f) in
          long (omega arith) (eqb-true (immediate_kind i.a) i32 (both_right (is_arm arm Xbegin) (is_xbegin i.a) f))
    ]

-- ---- The theorems

module _ {asked : Asked} {body : List ℕ} (p : Printed asked body) (start : ℕ) where
  shows_it : asked.mode ≤ 1 → BranchRecord (record_of asked.version body) → ShowsBranch start (record_text asked body)
  shows_it m r = record { line = meaning start (line_at asked body); reads = reads_back p start; target = rw (one_branch p (sum-asked asked m) r start) }

  the_line : (b : ShowsBranch start (record_text asked body)) → b.line ≡ meaning start (line_at asked body)
  the_line b =
      let x = reads_back p start in
      let y = b.reads in
      cc

  -- in whatever mode, a branch among the operands is shown by a branch record alone
  is_one : (k : Bool) → branches (arm_at (fields_of asked body)) (record_of asked.version body) ≡ k → ShowsBranch start (record_text asked body)
      → BranchRecord (record_of asked.version body)
  is_one true e b = branch_record (record_of asked.version body) (well p).opcode e
  is_one false e b =
      let s : Sound false (line_at asked body) = rw e at (sound p) in
      absurd (true≢false (sym b.target ∙ ap (λ (r : Read). any_target r.operands) (the_line b) ∙ no_target start (line_at asked body) s))

  only_branches : ShowsBranch start (record_text asked body) → BranchRecord (record_of asked.version body)
  only_branches = is_one (branches (arm_at (fields_of asked body)) (record_of asked.version body)) refl

  -- In modes 0 and 1, in every version and from every start, the line of an accepted record is read with a branch among its operands exactly
  -- if the record is a branch record.
  pub branch_exactly : asked.mode ≤ 1 → BranchRecord (record_of asked.version body) ↔ ShowsBranch start (record_text asked body)
  branch_exactly m = (shows_it m, only_branches)

  -- In mode 2 no line is: a target is a plain number.
  pub mode_2_no_branch : asked.mode ≡ 2 → ShowsBranch start (record_text asked body) → ⊥
  mode_2_no_branch m b =
      let r = only_branches b in
      let e = one_number p m r start in
      true≢false (sym b.target ∙ ap (λ (r : Read). any_target r.operands) (the_line b) ∙ ap any_target e ∙ plain_no_target (straight_width (record_of asked.version body)) _)
