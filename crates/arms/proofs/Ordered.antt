-- A record whose operands are counted from the left, as every body's are, shows its operands from the left, unless its shape is refused.
-- Assumes nothing.
use mathlib.Core.Path.{◌≡◌, refl, sym, ◌∙◌}
use mathlib.Core.Bool.{Bool, true, false, cond, not, ◌&&◌, ◌||◌, or-true}
use mathlib.Core.List.{List}
use Prim.Native.Nat.{ℕ, suc}
use native.Mathlib.Decide.{dec_lt}
use native.Mathlib.Omega.{arith}
use lib.Dec.{eqb, ltb}
use borrow.Author.Tests.{lt-ltb, le-ltb}
use Rattle.operands.specs.Kinds.{is_absent, is_register, is_register_r, is_memory}
use Rattle.operands.specs.Parts.{operand_in, starting_at, shown_of, is_st0}
use Rattle.operands.specs.RegisterBytes.{eax, xmm0}
use Rattle.operands.specs.declared.Instruction.{Instruction}
use Rattle.operands.specs.declared.Operand.{Operand}
use Rattle.operands.specs.declared.Operand.TheVariants.{Absent}
use Rattle.operands.specs.declared.Label.{Label}
use Rattle.operands.specs.declared.Label.TheVariants as label
use Rattle.operands.specs.declared.Label.TheVariants.{Dword, Qword, Fword}
use Rattle.operands.specs.declared.Shown.TheVariants.{St}
use Rattle.branches.specs.declared.Mode.{Mode}
use Rattle.places.specs.declared.Segment.{Segment}
use Rattle.places.specs.declared.Segment.TheVariants.{Hidden, Shown as Own, UnlessDs}
use Rattle.places.specs.declared.Mask.{Mask}
use Rattle.places.specs.declared.Mask.TheVariants.{Itself, Second}
use Rattle.std.specs.Prelude.{Option}
use Rattle.std.specs.Prelude as option
use Rattle.places.specs.declared.Place.{Place}
use Rattle.places.specs.declared.Place.TheVariants as place
use Rattle.places.specs.declared.Plan.{Plan}
use Rattle.places.specs.Places.{operand_shown, item_at, items_at}
use Rattle.places.specs.Order.{counted, is_nothing, from_the_left}
use Rattle.places.proofs.Starts.{left_unstarted}
use Rattle.bodies.specs.Body.{count_of}
use Rattle.bodies.specs.Decoding.{instruction_of}
use Rattle.bodies.proofs.Accepted.{absent_from_count}
use Rattle.bodies.proofs.Picks.{neither_left, neither_right}
use Rattle.names.specs.declared.Arm.{Arm}
use Rattle.names.specs.declared.Arm.TheVariants as arms
use Rattle.arms.specs.Tests.{is_branch, is_xbegin, lsl_source}
use Rattle.arms.specs.Labels.{size_label, lss_label, tbyte_label}
use Rattle.arms.specs.Plans.{LabelRule, plain, labelled, st, named, none, one, two, three, spread, general, never, always, by_registers, general_plan, movs_label, fadd, scattered, places_of, broadcast_as, decorated, plan_of}
use Rattle.arms.specs.Shape.{shape_refused, scatter_refused}
use Rattle.arms.specs.Size.{general_path}
use Rattle.arms.specs.Decorations.{broadcast_after}
use Rattle.arms.proofs.ByArm.{first_there, both-there, at_lsl, at_lss, at_invlpgb, at_fadd, scattering}

pub nothing_is_absent : (o : Operand) → is_nothing (shown_of o) ≡ is_absent o
nothing_is_absent Absent = refl
nothing_is_absent _ = refl

there : (o : Operand) → is_absent o ≡ false → is_nothing (shown_of o) ≡ false
there o e = nothing_is_absent o ∙ e

there_short : (short : Bool) (o : Operand) → is_absent o ≡ false → is_nothing (cond short St (shown_of o)) ≡ false
there_short true o e = refl
there_short false o e = there o e

register_there : (o : Operand) → not (is_register o) ≡ false → is_absent o ≡ false
register_there Absent e = e
register_there _ e = refl

-- memory as operand 0 is there
scattered-there : (a b c : Operand) → scatter_refused a b c ≡ false → is_absent a ≡ false
scattered-there Absent b c e = e
scattered-there _ b c e = refl

module _ (mode : Mode) (arm : Arm) (i : Instruction) where
  -- what a plan shows stands from the left
  abbrev Ordered : Plan → Type 0
  Ordered plan = from_the_left (items_at mode arm i plan) ≡ true

  -- a place shows something
  abbrev Shows : Place → Type 0
  Shows p = is_nothing (item_at mode arm i p).shown ≡ false

  operand-shows : (k : ℕ) (label : Label) (segment : Segment) (short : Bool) (mask : Mask) (b : Option ℕ) → is_absent (operand_in i k) ≡ false → Shows (place.Operand k label segment short mask b)
  unfolding item_at operand_shown
  operand-shows k label segment short mask b e = there_short (short && is_st0 (operand_in i k)) (operand_in i k) e

  ordered_one : (x : Place) → Ordered (one x)
  unfolding items_at item_at
  ordered_one x = rw (or-true (not (is_nothing (item_at mode arm i x).shown)))

  ordered_two : (x y : Place) → Shows x → Ordered (two x y)
  unfolding items_at item_at
  ordered_two x y e = simp (e, or-true)

  ordered_three : (x y z : Place) → Shows x → Shows y → Ordered (three x y z)
  unfolding items_at item_at
  ordered_three x y z e k = simp (e, k, or-true)

  ordered_either : (p : Bool) (x y : Plan) → Ordered x → Ordered y → Ordered (cond p x y)
  ordered_either true x y e k = e
  ordered_either false x y e k = k

  ordered_fadd : is_absent i.a ≡ false → Ordered (fadd i.size i.a i.b)
  ordered_fadd e =
      ordered_either (is_memory i.b) (one (labelled (size_label i.size) Own 1)) (cond (is_register_r i.a) (two (st 0) (plain 1)) (two (plain 0) (st 1)))
      (ordered_one (labelled (size_label i.size) Own 1))
      (ordered_either (is_register_r i.a) (two (st 0) (plain 1)) (two (plain 0) (st 1))
      (ordered_two (st 0) (plain 1) (operand-shows 0 label.None Hidden true Itself option.None e))
      (ordered_two (plain 0) (st 1) (operand-shows 0 label.None Hidden false Itself option.None e)))

  -- every operand stands where the record has it
  module _ (e : counted i ≡ true) where
    ordered_spread : (first later : Label) (segment : Segment) → Ordered (spread first later segment)
    unfolding spread items_at item_at operand_shown
    ordered_spread first later segment = simp nothing_is_absent e

    ordered_general : (rule : LabelRule) → Ordered (general rule i.size)
    unfolding general
    ordered_general rule = ordered_spread _ _ Own

    ordered_general_plan : Ordered (general_plan i)
    ordered_general_plan = ordered_general (by_registers i false false)

    -- an arm that leaves some records to the general path
    ordered_else : (p : Bool) (x : Plan) → Ordered x → Ordered (cond p x (general_plan i))
    ordered_else p x k = ordered_either p x (general_plan i) k ordered_general_plan

places_from_the_left :
    (mode : Mode) (arm : Arm) (i : Instruction) →
    counted i ≡ true →
    shape_refused arm i ≡ false →
    from_the_left (items_at mode arm i (places_of arm i)) ≡ true
unfolding places_of items_at item_at
places_from_the_left mode arms.General i e s = ordered_general_plan mode arms.General i e
places_from_the_left mode arms.Qword i e s = ordered_general mode arms.Qword i e never
places_from_the_left mode arms.Mmword i e s = ordered_general mode arms.Mmword i e always
places_from_the_left mode arms.Jmpf i e s = ordered_general mode arms.Jmpf i e (by_registers i true false)
places_from_the_left mode arms.Callf i e s = ordered_general mode arms.Callf i e (by_registers i true false)
places_from_the_left mode arms.Lds i e s = ordered_general mode arms.Lds i e (by_registers i false true)
places_from_the_left mode arms.Movs i e s = ordered_spread mode arms.Movs i e (movs_label i) (movs_label i) UnlessDs
places_from_the_left mode arms.Cmps i e s = ordered_general_plan mode arms.Cmps i e
places_from_the_left mode arms.Singles i e s = ordered_general_plan mode arms.Singles i e
places_from_the_left mode arms.Doubles i e s = ordered_general_plan mode arms.Doubles i e
places_from_the_left mode arms.Branch i e s = ordered_else mode arms.Branch i e (is_branch i.a) (one place.Branch) (ordered_one mode arms.Branch i place.Branch)
places_from_the_left mode arms.Call i e s = ordered_else mode arms.Call i e (is_branch i.a) (one place.Branch) (ordered_one mode arms.Call i place.Branch)
places_from_the_left mode arms.Xbegin i e s = ordered_else mode arms.Xbegin i e (is_xbegin i.a) (one place.Branch) (ordered_one mode arms.Xbegin i place.Branch)
places_from_the_left mode arms.Hreset i e s = ordered_two mode arms.Hreset i (plain 0) (named eax) (operand-shows mode arms.Hreset i 0 label.None Hidden false Itself option.None (sym (first_there i).0 ∙ s))
places_from_the_left mode arms.Lsl i e s =
    let source = named (lsl_source i.a i.b) in
    let a-there = register_there i.a (neither_left _ _ (sym (at_lsl i) ∙ s)) in
    ordered_else mode arms.Lsl i e (is_register i.a && is_register i.b) (two (plain 0) source) (ordered_two mode arms.Lsl i (plain 0) source (operand-shows mode arms.Lsl i 0 label.None Hidden false Itself option.None a-there))
places_from_the_left mode arms.Prefetch i e s = ordered_one mode arms.Prefetch i (plain 0)
places_from_the_left mode arms.Sgdt i e s = ordered_one mode arms.Sgdt i (labelled Fword Hidden 0)
places_from_the_left mode arms.Lss i e s =
    ordered_two mode arms.Lss i (plain 0) (labelled (lss_label i.size) Hidden 1) (operand-shows mode arms.Lss i 0 label.None Hidden false Itself option.None (neither_left (is_absent i.a) _ (sym (at_lss i) ∙ s)))
places_from_the_left mode arms.Nop i e s = ordered_either mode arms.Nop i (is_absent i.b) (general_plan i) none (ordered_general_plan mode arms.Nop i e) refl
places_from_the_left mode arms.ScatterDword i e s = ordered_two mode arms.ScatterDword i (scattered Dword) (plain 2) (operand-shows mode arms.ScatterDword i 0 Dword Hidden false Second option.None (scattered-there i.a i.b i.c (sym (scattering i).0 ∙ s)))
places_from_the_left mode arms.ScatterQword i e s = ordered_two mode arms.ScatterQword i (scattered Qword) (plain 2) (operand-shows mode arms.ScatterQword i 0 Qword Hidden false Second option.None (scattered-there i.a i.b i.c (sym (scattering i).1.0 ∙ s)))
places_from_the_left mode arms.Invlpgb i e s = ordered_two mode arms.Invlpgb i (plain 0) (plain 2) (operand-shows mode arms.Invlpgb i 0 label.None Hidden false Itself option.None (neither_left (is_absent i.a) _ (sym (at_invlpgb i) ∙ s)))
places_from_the_left mode arms.Scas i e s = ordered_one mode arms.Scas i (labelled (size_label i.size) Own 0)
places_from_the_left mode arms.Lods i e s = ordered_one mode arms.Lods i (labelled (size_label i.size) Hidden 1)
places_from_the_left mode arms.Incssp i e s = ordered_general_plan mode arms.Incssp i e
places_from_the_left mode arms.Wrss i e s = ordered_general_plan mode arms.Wrss i e
places_from_the_left mode arms.Pblendvb i e s =
    let there = sym (both-there i).0 ∙ s in
    ordered_three mode arms.Pblendvb i (plain 0) (labelled (size_label i.size) Own 1) (named xmm0) (operand-shows mode arms.Pblendvb i 0 label.None Hidden false Itself option.None (neither_left (is_absent i.a) (is_absent i.b) there))
    (operand-shows mode arms.Pblendvb i 1 _ Own false Itself option.None (neither_right (is_absent i.a) (is_absent i.b) there))
places_from_the_left mode arms.Lea i e s = ordered_two mode arms.Lea i (plain 0) (plain 1) (operand-shows mode arms.Lea i 0 label.None Hidden false Itself option.None (neither_left (is_absent i.a) _ (sym (both-there i).1.0 ∙ s)))
places_from_the_left mode arms.Aam i e s = ordered_else mode arms.Aam i e (eqb i.imm 10) none refl
places_from_the_left mode arms.Fcom i e s = ordered_one mode arms.Fcom i (labelled (size_label i.size) Own 1)
places_from_the_left mode arms.Fadd i e s = ordered_fadd mode arms.Fadd i (neither_left _ _ (neither_left _ _ (sym (at_fadd i) ∙ s)))
places_from_the_left mode arms.Fbld i e s = ordered_one mode arms.Fbld i (place.Operand 1 (tbyte_label i.size) Own true Itself option.None)
places_from_the_left mode arms.Fbstp i e s = ordered_one mode arms.Fbstp i (labelled (tbyte_label i.size) Own 0)
places_from_the_left mode _ i e s = refl

-- a broadcast changes nothing of what a place shows before it
shown_with-broadcast : (mode : Mode) (arm : Arm) (i : Instruction) (b : Option ℕ) (p : Place) → (item_at mode arm i (broadcast_as b p)).shown ≡ (item_at mode arm i p).shown
unfolding item_at operand_shown
shown_with-broadcast mode arm i b place.Nothing = refl
shown_with-broadcast mode arm i b _ = refl

module _ (mode : Mode) (arm : Arm) (i : Instruction) where
  left-decorated : (plan : Plan) → from_the_left (items_at mode arm i (decorated arm i plan)) ≡ from_the_left (items_at mode arm i plan)
  unfolding items_at decorated
  left-decorated plan =
      rw (
        shown_with-broadcast mode arm i (broadcast_after arm i i.a) plan.b,
        shown_with-broadcast mode arm i (broadcast_after arm i i.b) plan.c,
        shown_with-broadcast mode arm i (broadcast_after arm i i.c) plan.d,
      )

  left_either : (g : Bool) (plan : Plan) → from_the_left (items_at mode arm i (cond g (decorated arm i plan) plan)) ≡ from_the_left (items_at mode arm i plan)
  left_either true plan = left-decorated plan
  left_either false plan = refl

  pub from_the_left_lem : counted i ≡ true → shape_refused arm i ≡ false → from_the_left (items_at mode arm i (plan_of arm i)) ≡ true
  unfolding plan_of
  from_the_left_lem e s = left_either (general_path arm i) (places_of arm i) ∙ places_from_the_left mode arm i e s

-- after a place that is not before the count stands none that is
before_count : (k n : ℕ) → (not (not (ltb k n)) || not (ltb (suc k) n)) ≡ true
before_count k n =
    elim (dec_lt k n) [
      | yes h ↦ rw (lt-ltb k n h)
      | no h ↦ rw (le-ltb k n (omega arith), le-ltb (suc k) n (omega arith))
    ]

-- the operands of a body are counted from the left
pub body-counted : (body : List ℕ) → counted (instruction_of body) ≡ true
unfolding instruction_of
body-counted body =
    let n = count_of body in
    rw (absent_from_count body 0, absent_from_count body 1, absent_from_count body 2, absent_from_count body 3, before_count 0 n, before_count 1 n, before_count 2 n)

-- so a body whose shape is not refused shows its operands from the left, wherever it starts
pub body_from_the_left :
    (mode : Mode) (arm : Arm) (start : ℕ) (body : List ℕ) →
    shape_refused arm (instruction_of body) ≡ false →
    from_the_left (items_at mode arm (starting_at start (instruction_of body)) (plan_of arm (instruction_of body))) ≡ true
body_from_the_left mode arm start body s =
    let i = instruction_of body in
    left_unstarted mode arm start i (plan_of arm i) ∙ from_the_left_lem mode arm i (body-counted body) s
