-- The general path: which records take it, the plan that it makes of them, and the plan of an arm that does not leave its record to it.
-- Assumes nothing.
use mathlib.Core.Path.{◌≡◌, refl, sym, ap, ◌∙◌}
use mathlib.Core.Bool.{Bool, true, false, cond, not, ◌&&◌, or-false}
use mathlib.Core.List.{List, [], ◌∷◌, ◌++◌, map}
use Prim.Native.Nat.{ℕ}
use lib.Dec.{eqb}
use types.Run.{OneOf}
use Rattle.operands.specs.Kinds.{is_absent, is_register}
use Rattle.operands.specs.RegisterBytes.{eax, ecx, edx}
use Rattle.operands.specs.declared.Instruction.{Instruction}
use Rattle.places.specs.declared.Segment.TheVariants.{Shown as Own}
use Rattle.places.specs.declared.Place.TheVariants as place
use Rattle.places.specs.declared.Plan.{Plan}
use Rattle.names.specs.declared.Arm.{Arm}
use Rattle.names.specs.declared.Arm.TheVariants as arms
use Rattle.names.specs.Among.{is_arm, is_one_of}
use Rattle.arms.specs.Tests.{is_branch, is_xbegin, lsl_source}
use Rattle.arms.specs.Code.{mmword_for}
use Rattle.arms.specs.Labels.{general_label}
use Rattle.arms.specs.Plans.{plain, named, none, one, two, three, spread, general, general_plan, places_of}
use Rattle.arms.specs.Code.{general_by}
use Rattle.arms.specs.Size.{general_path}
use Rattle.names.proofs.ArmGroups.{tag, at_group, of_group, Each}

-- an arm that leaves its record to the general path where the test fails, or where it holds
left : {X : Type 0} (p : Bool) (x y : X) → not p ≡ true → cond p x y ≡ y
left true x y e = cc
left false x y e = refl

taken : {X : Type 0} (p : Bool) (x y : X) → p ≡ true → cond p x y ≡ x
taken true x y e = refl
taken false x y e = cc

-- an arm that leaves no record to it where the test holds, and tests that decide between a plan and the same plan
held : {X : Type 0} (p : Bool) (x y : X) → not p ≡ false → cond p x y ≡ x
held true x y e = refl
held false x y e = cc

same_if_held : {X : Type 0} (p : Bool) (x y : X) → cond (not p) x (cond p x y) ≡ x
same_if_held true x y = refl
same_if_held false x y = refl

same_if_left : {X : Type 0} (p : Bool) (x y : X) → cond p x (cond p y x) ≡ x
same_if_left true x y = refl
same_if_left false x y = refl

-- the arms with one label for all operands and their own segments, wherever they are left to the general path
abbrev pub alike : List Arm
alike =
    arms.General ∷ arms.Qword ∷ arms.Mmword ∷ arms.Cmps ∷ arms.Singles ∷ arms.Doubles ∷ arms.Branch ∷ arms.Call ∷ arms.Xbegin ∷ arms.Feni ∷ arms.Fdisi ∷ arms.Fsetpm ∷ arms.Hreset ∷ arms.Lsl ∷ arms.Prefetch ∷ arms.Sgdt ∷ arms.Lss ∷ arms.Nop ∷
    arms.ScatterDword ∷ arms.ScatterQword ∷ arms.Monitor ∷ arms.Mwait ∷ arms.Invlpgb ∷ arms.Rdpru ∷ arms.Scas ∷ arms.Lods ∷ arms.Psmash ∷ arms.Pvalidate ∷ arms.Incssp ∷ arms.Wrss ∷ arms.Pblendvb ∷ arms.Lea ∷ arms.Pushf ∷ arms.Aam ∷
    arms.Fcom ∷ arms.Fadd ∷ arms.Fbld ∷ arms.Fbstp ∷ []

-- the plan of the general path by the arms that the code tells apart
module _ (arm : Arm) (mmword : Bool) (size : ℕ) where
  general_as :
      (first later : Bool) →
      is_one_of arm (arms.Jmpf ∷ arms.Callf ∷ []) ≡ first →
      is_arm arm arms.Lds ≡ later →
      is_arm arm arms.Movs ≡ false →
      general_by arm mmword size ≡ spread (general_label mmword first size) (general_label mmword later size) Own
  unfolding general_by
  general_as first later e f g = rw (e, f, g)

  pub general_far : OneOf (map tag (arms.Jmpf ∷ arms.Callf ∷ [])) (tag arm) → general_by arm mmword size ≡ spread (general_label mmword true size) (general_label mmword false size) Own
  general_far o =
      let far = arms.Jmpf ∷ arms.Callf ∷ [] in
      general_as true false (of_group (λ (x : Arm). is_one_of x (arms.Jmpf ∷ arms.Callf ∷ [])) true far arm tt o) (of_group (λ (x : Arm). is_arm x arms.Lds) false far arm tt o)
      (of_group (λ (x : Arm). is_arm x arms.Movs) false far arm tt o)

  pub general-alike : OneOf (map tag alike) (tag arm) → general_by arm mmword size ≡ spread (general_label mmword false size) (general_label mmword false size) Own
  general-alike o =
      general_as false false (of_group (λ (x : Arm). is_one_of x (arms.Jmpf ∷ arms.Callf ∷ [])) false alike arm tt o)
      (of_group (λ (x : Arm). is_arm x arms.Lds) false alike arm tt o)
      (of_group (λ (x : Arm). is_arm x arms.Movs) false alike arm tt o)

-- the arms that show their name alone of a record that they do not leave to it, if there is any: in the order of the declaration, in three parts
abbrev silent_first : List Arm
silent_first = arms.General ∷ arms.Qword ∷ arms.Mmword ∷ arms.Jmpf ∷ arms.Callf ∷ arms.Lds ∷ arms.Movs ∷ arms.Cmps ∷ arms.Singles ∷ arms.Doubles ∷ []

abbrev silent_next : List Arm
silent_next = arms.Feni ∷ arms.Fdisi ∷ arms.Fsetpm ∷ arms.Nop ∷ []

abbrev silent_last : List Arm
silent_last = arms.Rdpru ∷ arms.Incssp ∷ arms.Wrss ∷ arms.Pushf ∷ arms.Aam ∷ []

abbrev pub silent : List Arm
silent = silent_first ++ (silent_next ++ silent_last)

module _ (i : Instruction) where
  -- ---- Which records take it

  pub path_of_branch : general_path arms.Branch i ≡ not (is_branch i.a)
  path_of_branch = simp or-false

  pub path_of_call : general_path arms.Call i ≡ not (is_branch i.a)
  path_of_call = simp or-false

  pub path_of_xbegin : general_path arms.Xbegin i ≡ not (is_xbegin i.a)
  path_of_xbegin = simp or-false

  pub path_of_lsl : general_path arms.Lsl i ≡ not (is_register i.a && is_register i.b)
  path_of_lsl = simp or-false

  pub path_of_nop : general_path arms.Nop i ≡ is_absent i.b
  path_of_nop = simp or-false

  pub path_of_aam : general_path arms.Aam i ≡ not (eqb i.imm 10)
  path_of_aam = refl

  -- ---- The plan that it makes

  pub general_plan_lem : (arm : Arm) → general_path arm i ≡ true → places_of arm i ≡ general_by arm (mmword_for arm i) i.size
  unfolding places_of general general_by
  general_plan_lem arms.General e = refl
  general_plan_lem arms.Qword e = refl
  general_plan_lem arms.Mmword e = refl
  general_plan_lem arms.Jmpf e = refl
  general_plan_lem arms.Callf e = refl
  general_plan_lem arms.Lds e = refl
  general_plan_lem arms.Movs e = refl
  general_plan_lem arms.Cmps e = refl
  general_plan_lem arms.Singles e = refl
  general_plan_lem arms.Doubles e = refl
  general_plan_lem arms.Branch e = left (is_branch i.a) (one place.Branch) (general_plan i) (sym path_of_branch ∙ e)
  general_plan_lem arms.Call e = left (is_branch i.a) (one place.Branch) (general_plan i) (sym path_of_call ∙ e)
  general_plan_lem arms.Xbegin e = left (is_xbegin i.a) (one place.Branch) (general_plan i) (sym path_of_xbegin ∙ e)
  general_plan_lem arms.Lsl e = left (is_register i.a && is_register i.b) (two (plain 0) (named (lsl_source i.a i.b))) (general_plan i) (sym path_of_lsl ∙ e)
  general_plan_lem arms.Nop e = taken (is_absent i.b) (general_plan i) none (sym path_of_nop ∙ e)
  general_plan_lem arms.Incssp e = refl
  general_plan_lem arms.Wrss e = refl
  general_plan_lem arms.Aam e = left (eqb i.imm 10) none (general_plan i) (sym path_of_aam ∙ e)
  general_plan_lem _ e = cc

  -- ---- The plan of an arm that does not leave its record to it

  abbrev pub OwnPlan : Plan → Arm → Type 0
  OwnPlan v arm = cond (general_path arm i) v (places_of arm i) ≡ v

  pub own_plan : (v : Plan) (xs : List Arm) (arm : Arm) → Each (OwnPlan v) xs → OneOf (map tag xs) (tag arm) → general_path arm i ≡ false → places_of arm i ≡ v
  own_plan v xs arm all keys e =
      ap (λ (t : Bool). cond t v (places_of arm i)) (sym e) ∙ at_group (λ (x : Arm). cond (general_path x i) v (places_of x i)) v xs arm all keys

  own_by : (v : Plan) (arm : Arm) (t : Bool) → general_path arm i ≡ t → cond t v (places_of arm i) ≡ v → OwnPlan v arm
  own_by v arm t e k = ap (λ (u : Bool). cond u v (places_of arm i)) e ∙ k

  pub own_branch : Each (OwnPlan (one place.Branch)) (arms.Branch ∷ arms.Call ∷ arms.Xbegin ∷ [])
  unfolding places_of
  own_branch = (
    own_by (one place.Branch) arms.Branch (not (is_branch i.a)) path_of_branch (same_if_held (is_branch i.a) (one place.Branch) (general_plan i)),
    (
      own_by (one place.Branch) arms.Call (not (is_branch i.a)) path_of_call (same_if_held (is_branch i.a) (one place.Branch) (general_plan i)),
      (own_by (one place.Branch) arms.Xbegin (not (is_xbegin i.a)) path_of_xbegin (same_if_held (is_xbegin i.a) (one place.Branch) (general_plan i)), tt),
    ),
  )

  pub own_lsl : (arm : Arm) → arm ≡ arms.Lsl → general_path arm i ≡ false → places_of arm i ≡ two (plain 0) (named (lsl_source i.a i.b))
  unfolding places_of
  own_lsl arm is e =
      ap (λ (x : Arm). places_of x i) is
      ∙ held (is_register i.a && is_register i.b) (two (plain 0) (named (lsl_source i.a i.b))) (general_plan i) (sym path_of_lsl ∙ (ap (λ (x : Arm). general_path x i) (sym is) ∙ e))

  pub own_monitor : Each (λ (x : Arm). places_of x i ≡ three (named eax) (named ecx) (named edx)) (arms.Monitor ∷ arms.Pvalidate ∷ [])
  unfolding places_of
  own_monitor = (refl, (refl, tt))

  own_nop : OwnPlan none arms.Nop
  unfolding places_of
  own_nop = own_by none arms.Nop (is_absent i.b) path_of_nop (same_if_left (is_absent i.b) none (general_plan i))

  own_aam : OwnPlan none arms.Aam
  unfolding places_of
  own_aam = own_by none arms.Aam (not (eqb i.imm 10)) path_of_aam (same_if_held (eqb i.imm 10) none (general_plan i))

  own_silent_first : Each (OwnPlan none) silent_first
  unfolding places_of
  own_silent_first = (refl, (refl, (refl, (refl, (refl, (refl, (refl, (refl, (refl, (refl, tt))))))))))

  own_silent_next : Each (OwnPlan none) silent_next
  unfolding places_of
  own_silent_next = (refl, (refl, (refl, (own_nop, tt))))

  own_silent_last : Each (OwnPlan none) silent_last
  unfolding places_of
  own_silent_last = (refl, (refl, (refl, (refl, (own_aam, tt)))))

  all_of : (xs ys : List Arm) → Each (OwnPlan none) xs → Each (OwnPlan none) ys → Each (OwnPlan none) (xs ++ ys)
  all_of [] ys a b = b
  all_of (x ∷ xs) ys a b = (a.0, all_of xs ys a.1 b)

  pub own_silent : (arm : Arm) → OneOf (map tag silent) (tag arm) → general_path arm i ≡ false → places_of arm i ≡ none
  own_silent arm =
      own_plan none silent arm (all_of silent_first (silent_next ++ silent_last) own_silent_first (all_of silent_next silent_last own_silent_next own_silent_last))
