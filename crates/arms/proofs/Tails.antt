-- A tail ends a line that shows an operand, and no other.
-- Assumes nothing.
use mathlib.Core.Path.{◌≡◌, refl, sym, ap, ◌∙◌}
use mathlib.Core.Bool.{Bool, true, false, cond, ◌&&◌}
use lib.Dec.{eqb}
use Rattle.operands.specs.Kinds.{is_absent, is_register, is_register_r, is_memory}
use Rattle.operands.specs.declared.Instruction.{Instruction}
use Rattle.operands.specs.declared.Tail.TheVariants as tail
use Rattle.branches.specs.declared.Mode.{Mode}
use Rattle.places.specs.Order.{is_nothing}
use Rattle.places.specs.Places.{operand_shown, item_at}
use Rattle.places.specs.declared.Segment.TheVariants.{Shown as Own}
use Rattle.places.specs.declared.Place.TheVariants as place
use Rattle.places.specs.declared.Plan.{Plan}
use Rattle.names.specs.declared.Arm.{Arm}
use Rattle.names.specs.declared.Arm.TheVariants as arms
use Rattle.arms.specs.Tests.{is_branch, is_xbegin, lsl_source}
use Rattle.arms.specs.Labels.{size_label}
use Rattle.arms.specs.Code.{general_by}
use Rattle.arms.specs.Plans.{plain, labelled, st, named, none, one, two, spread, general, general_plan, places_of, decorated, plan_of}
use Rattle.arms.specs.Size.{general_path}
use Rattle.arms.specs.Decorations.{tail_of}
use Rattle.arms.proofs.GeneralPath.{general_plan_lem}
use Rattle.arms.proofs.Ordered.{nothing_is_absent}

-- places have no tail of their own
no_tail_either : (p : Bool) (x y : Plan) → x.tail ≡ tail.None → y.tail ≡ tail.None → (cond p x y).tail ≡ tail.None
no_tail_either true x y e k = e
no_tail_either false x y e k = k

pub places_end : (arm : Arm) (i : Instruction) → (places_of arm i).tail ≡ tail.None
unfolding places_of general spread
places_end arms.Branch i = no_tail_either (is_branch i.a) (one place.Branch) (general_plan i) refl refl
places_end arms.Call i = no_tail_either (is_branch i.a) (one place.Branch) (general_plan i) refl refl
places_end arms.Xbegin i = no_tail_either (is_xbegin i.a) (one place.Branch) (general_plan i) refl refl
places_end arms.Lsl i = no_tail_either (is_register i.a && is_register i.b) (two (plain 0) (named (lsl_source i.a i.b))) (general_plan i) refl refl
places_end arms.Nop i = no_tail_either (is_absent i.b) (general_plan i) none refl refl
places_end arms.Aam i = no_tail_either (eqb i.imm 10) none (general_plan i) refl refl
places_end arms.Fadd i = no_tail_either (is_memory i.b) (one (labelled (size_label i.size) Own 1)) (cond (is_register_r i.a) (two (st 0) (plain 1)) (two (plain 0) (st 1))) refl
    (no_tail_either (is_register_r i.a) (two (st 0) (plain 1)) (two (plain 0) (st 1)) refl refl)
places_end _ i = refl

-- without operand 0 there is no tail
tail_of_none : (i : Instruction) → is_absent i.a ≡ true → tail_of i ≡ tail.None
unfolding tail_of
tail_of_none i e = rw e

module _ (mode : Mode) (arm : Arm) (i : Instruction) where
  -- the general path shows operand 0 first
  general-shows : general_path arm i ≡ true → is_nothing (item_at mode arm i (places_of arm i).a).shown ≡ is_absent i.a
  unfolding general_by spread item_at operand_shown
  general-shows e =
      ap (λ (p : Plan). is_nothing (item_at mode arm i p.a).shown) (general_plan_lem i arm e) ∙ nothing_is_absent i.a

  pub tail_after_operand : is_nothing (item_at mode arm i (plan_of arm i).a).shown ≡ true → (plan_of arm i).tail ≡ tail.None
  unfolding plan_of decorated
  tail_after_operand = go (general_path arm i) refl
    where
      go : (g : Bool) → general_path arm i ≡ g → is_nothing (item_at mode arm i (cond g (decorated arm i (places_of arm i)) (places_of arm i)).a).shown ≡ true → (cond g (decorated arm i (places_of arm i)) (places_of arm i)).tail ≡ tail.None
      go true e n = tail_of_none i (sym (general-shows e) ∙ n)
      go false e n = places_end arm i
