-- Some place of the plan lacks its label exactly where the size is refused: answer 5 from the fields is answer 5 from the plan. A
-- record whose shape is refused is refused before.
-- Assumes nothing.
use mathlib.Core.Path.{◌≡◌, refl, sym, ◌∙◌}
use mathlib.Core.Bool.{
  Bool,
  true,
  false,
  cond,
  not,
  ◌&&◌,
  ◌||◌,
  or-false,
  or_assoc,
  and-true,
  and-false,
  and_comm,
  and_self_left,
}
use Prim.Native.Nat.{ℕ}
use native.Mathlib.Omega.{arith}
use lib.Dec.{eqb}
use borrow.Author.Tests.{not-false}
use Rattle.operands.specs.Kinds.{is_absent, is_register, is_register_r, is_memory}
use Rattle.operands.specs.Parts.{operand_in}
use Rattle.operands.specs.RegisterBytes.{xmm0}
use Rattle.operands.specs.declared.Instruction.{Instruction}
use Rattle.operands.specs.declared.Operand.{Operand}
use Rattle.operands.specs.declared.Label.{Label}
use Rattle.places.specs.declared.Segment.{Segment}
use Rattle.places.specs.declared.Segment.TheVariants.{Hidden, Shown as Own, UnlessDs}
use Rattle.places.specs.declared.Mask.TheVariants.{Itself}
use Rattle.std.specs.Prelude.{Option}
use Rattle.std.specs.Prelude as option
use Rattle.places.specs.declared.Place.{Place}
use Rattle.places.specs.declared.Place.TheVariants as place
use Rattle.places.specs.declared.Plan.{Plan}
use Rattle.bodies.proofs.Picks.{neither_left, neither_right}
use Rattle.names.specs.declared.Arm.{Arm}
use Rattle.names.specs.declared.Arm.TheVariants as arms
use Rattle.arms.specs.Tests.{is_branch, is_xbegin, lsl_source, has_vector}
use Rattle.arms.specs.Labels.{size_label, general_label, lss_label, tbyte_label}
use Rattle.arms.specs.Plans.{
  LabelRule,
  plain,
  labelled,
  st,
  named,
  none,
  one,
  two,
  three,
  spread,
  general,
  never,
  always,
  by_registers,
  general_plan,
  fadd,
  places_of,
  broadcast_as,
  decorated,
  plan_of,
}
use Rattle.arms.specs.Shape.{shape_refused}
use Rattle.arms.specs.Size.{has_label, general_path, general_refused, size_refused}
use Rattle.arms.specs.Decorations.{broadcast_after}
use Rattle.arms.specs.Missing.{is_missing, place_misses, place_lacks, plan_lacks}
use Rattle.arms.proofs.MissingSizes.{missing_by_size, missing_with_tbyte, missing_for_lss, missing_in_general_path}
use Rattle.arms.proofs.ByArm.{first_memory, at_lss, at_lods}

-- ---- A place that misses no label

lacks_none : (i : Instruction) (p : Place) → place_misses p ≡ false → place_lacks i p ≡ false
lacks_none i (place.Operand k label segment short mask b) e = rw e
lacks_none i _ e = refl

-- where no place of a plan misses one, the plan lacks none
pub misses_none :
    (i : Instruction) (plan : Plan) →
    (place_misses plan.a || place_misses plan.b || place_misses plan.c || place_misses plan.d) ≡ false → plan_lacks i plan ≡ false
unfolding plan_lacks
misses_none i plan e =
    rw (
      lacks_none i plan.a (search (neither_left, neither_right, e)),
      lacks_none i plan.b (search (neither_left, neither_right, e)),
      lacks_none i plan.c (search (neither_left, neither_right, e)),
      lacks_none i plan.d (search (neither_left, neither_right, e)),
    )

-- ---- The general path

-- the operands of the general path share what 63 and 48 say, and those after operand 0 their label
general_path_shares :
    (w x y a b c d : Bool) →
    (w && x && a || w && y && b || w && y && c || w && y && d) ≡ (w && (a && x || (b || c || d) && y))
general_path_shares w x y a b c d = grind arith

-- every operand with a label that may be missing
lacking_spread :
    (first later : Label) (segment : Segment) (i : Instruction) →
    plan_lacks i (spread first later segment) ≡
    (is_missing first && is_memory i.a || is_missing later && is_memory i.b || is_missing later && is_memory i.c || is_missing later && is_memory i.d)
unfolding plan_lacks spread
lacking_spread first later segment i = refl

module _ (mmword first later : Bool) (segment : Segment) (i : Instruction) where
  lacking_path :
      plan_lacks i (spread (general_label mmword first i.size) (general_label mmword later i.size) segment) ≡ general_refused first later i
  lacking_path =
      rw (
        lacking_spread (general_label mmword first i.size) (general_label mmword later i.size) segment i,
        missing_in_general_path mmword first i.size,
        missing_in_general_path mmword later i.size,
      )
      (general_path_shares
      (not (eqb i.size 63 || eqb i.size 48))
      (not (has_label i.size || eqb i.size 6 && first))
      (not (has_label i.size || eqb i.size 6 && later))
      (is_memory i.a)
      (is_memory i.b)
      (is_memory i.c)
      (is_memory i.d))

lacking_general : (rule : LabelRule) (i : Instruction) → plan_lacks i (general rule i.size) ≡ general_refused rule.first rule.later i
unfolding general
lacking_general rule i = lacking_path rule.mmword rule.first rule.later Own i

lacking_general_plan : (i : Instruction) → plan_lacks i (general_plan i) ≡ general_refused false false i
lacking_general_plan i = lacking_general (by_registers i false false) i

-- ---- Arms that choose

lacking_when :
    (i : Instruction) (p : Bool) (x y : Plan) (g : Bool) →
    plan_lacks i x ≡ g →
    plan_lacks i y ≡ false →
    plan_lacks i (cond p x y) ≡ (p && g)
lacking_when i true x y g e k = e
lacking_when i false x y g e k = k

lacking_unless :
    (i : Instruction) (p : Bool) (x y : Plan) (g : Bool) →
    plan_lacks i x ≡ false →
    plan_lacks i y ≡ g →
    plan_lacks i (cond p x y) ≡ (not p && g)
lacking_unless i true x y g e k = e
lacking_unless i false x y g e k = k

-- an arm that leaves some records to the general path
lacking_else : (i : Instruction) (p : Bool) (x : Plan) → plan_lacks i x ≡ false → plan_lacks i (cond p x (general_plan i)) ≡ (not p && general_refused false false i)
lacking_else i p x e = lacking_unless i p x (general_plan i) (general_refused false false i) e (lacking_general_plan i)

-- ---- Arms with one label

module _ (l : Label) (segment : Segment) (short : Bool) (k : ℕ) (i : Instruction) where
  lacking_first : plan_lacks i (one (place.Operand k l segment short Itself option.None)) ≡ (is_memory (operand_in i k) && is_missing l)
  unfolding plan_lacks
  lacking_first = simp or-false (and_comm (is_missing l) (is_memory (operand_in i k)))

  -- after an operand by itself
  lacking_second :
      (last : Place) →
      place_lacks i last ≡ false →
      plan_lacks i (three (plain 0) (place.Operand k l segment short Itself option.None) last) ≡ (is_memory (operand_in i k) && is_missing l)
  unfolding plan_lacks
  lacking_second last e = simp or-false (rw e (simp or-false (and_comm (is_missing l) (is_memory (operand_in i k)))))

lacking_fadd : (i : Instruction) → plan_lacks i (fadd i.size i.a i.b) ≡ (is_memory i.b && not (has_label i.size))
unfolding plan_lacks
lacking_fadd i =
    lacking_when
    i
    (is_memory i.b)
    (one (labelled (size_label i.size) Own 1))
    (cond (is_register_r i.a) (two (st 0) (plain 1)) (two (plain 0) (st 1)))
    (is_memory i.b && not (has_label i.size))
    (lacking_first (size_label i.size) Own false 1 i ∙ rw (missing_by_size i.size))
    (simp and-false at (lacking_when i (is_register_r i.a) (two (st 0) (plain 1)) (two (plain 0) (st 1)) false refl refl))
    ∙ and_self_left (is_memory i.b) (not (has_label i.size))

-- what a shape that is not refused says
memory_there : (o : Operand) (r : Bool) → r ≡ not (is_memory o) → r ≡ false → is_memory o ≡ true
memory_there o r is e = not-false (is_memory o) (sym is ∙ e)

-- ---- The law, of the places

places_lacking : (arm : Arm) (i : Instruction) → shape_refused arm i ≡ false → plan_lacks i (places_of arm i) ≡ size_refused arm i
unfolding places_of size_refused plan_lacks
places_lacking arms.General i s = lacking_general_plan i ∙ simp or-false
places_lacking arms.Qword i s = lacking_general never i ∙ simp or-false
places_lacking arms.Mmword i s = lacking_general always i ∙ simp or-false
places_lacking arms.Jmpf i s = lacking_general (by_registers i true false) i ∙ simp or-false
places_lacking arms.Callf i s = lacking_general (by_registers i true false) i ∙ simp or-false
places_lacking arms.Lds i s = lacking_general (by_registers i false true) i ∙ simp or-false
places_lacking arms.Movs i s = lacking_path (has_vector i) false false UnlessDs i ∙ simp or-false
places_lacking arms.Cmps i s = lacking_general_plan i ∙ simp or-false
places_lacking arms.Singles i s = lacking_general_plan i ∙ simp or-false
places_lacking arms.Doubles i s = lacking_general_plan i ∙ simp or-false
places_lacking arms.Branch i s = lacking_else i (is_branch i.a) (one place.Branch) refl ∙ simp or-false
places_lacking arms.Call i s = lacking_else i (is_branch i.a) (one place.Branch) refl ∙ simp or-false
places_lacking arms.Xbegin i s = lacking_else i (is_xbegin i.a) (one place.Branch) refl ∙ simp or-false
places_lacking arms.Lsl i s = lacking_else i (is_register i.a && is_register i.b) (two (plain 0) (named (lsl_source i.a i.b))) refl ∙ simp or-false
places_lacking arms.Lss i s =
    lacking_second (lss_label i.size) Hidden false 1 i place.Nothing refl
    ∙ rw (missing_for_lss i.size, memory_there i.b _ refl (neither_right (is_absent i.a) _ (sym (at_lss i) ∙ s)))
places_lacking arms.Nop i s = lacking_when i (is_absent i.b) (general_plan i) none (general_refused false false i) (lacking_general_plan i) refl ∙ simp or-false
places_lacking arms.Scas i s = lacking_first (size_label i.size) Own false 0 i ∙ simp or-false (rw (missing_by_size i.size, memory_there i.a _ (first_memory i).1.0 s))
places_lacking arms.Lods i s = lacking_first (size_label i.size) Hidden false 1 i ∙ simp or-false (rw (missing_by_size i.size, memory_there i.b _ (at_lods i) s))
places_lacking arms.Incssp i s = lacking_general_plan i ∙ simp or-false
places_lacking arms.Wrss i s = lacking_general_plan i ∙ simp or-false
places_lacking arms.Pblendvb i s = lacking_second (size_label i.size) Own false 1 i (named xmm0) refl ∙ simp or-false (rw (missing_by_size i.size))
places_lacking arms.Aam i s = lacking_else i (eqb i.imm 10) none refl ∙ simp or-false
places_lacking arms.Fcom i s = lacking_first (size_label i.size) Own false 1 i ∙ simp or-false (rw (missing_by_size i.size))
places_lacking arms.Fadd i s = lacking_fadd i ∙ simp or-false
places_lacking arms.Fbld i s = lacking_first (tbyte_label i.size) Own true 1 i ∙ simp or-false (rw (missing_with_tbyte i.size))
places_lacking arms.Fbstp i s = lacking_first (tbyte_label i.size) Own false 0 i ∙ simp or-false (rw (missing_with_tbyte i.size))
places_lacking _ i s = refl

-- ---- The law, of the plan: a broadcast and a tail take no label away

lacks_with_broadcast : (i : Instruction) (b : Option ℕ) (p : Place) → place_lacks i (broadcast_as b p) ≡ place_lacks i p
lacks_with_broadcast i b place.Nothing = refl
lacks_with_broadcast i b _ = refl

module _ (arm : Arm) (i : Instruction) where
  lacks_decorated : (plan : Plan) → plan_lacks i (decorated arm i plan) ≡ plan_lacks i plan
  unfolding plan_lacks decorated
  lacks_decorated plan =
      rw (
        lacks_with_broadcast i (broadcast_after arm i i.a) plan.b,
        lacks_with_broadcast i (broadcast_after arm i i.b) plan.c,
        lacks_with_broadcast i (broadcast_after arm i i.c) plan.d,
      )

  lacks_either : (g : Bool) (plan : Plan) → plan_lacks i (cond g (decorated arm i plan) plan) ≡ plan_lacks i plan
  lacks_either true plan = lacks_decorated plan
  lacks_either false plan = refl

  pub plan_lacking : shape_refused arm i ≡ false → plan_lacks i (plan_of arm i) ≡ size_refused arm i
  unfolding plan_of
  plan_lacking s = lacks_either (general_path arm i) (places_of arm i) ∙ places_lacking arm i s
