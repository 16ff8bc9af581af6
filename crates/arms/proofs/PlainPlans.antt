-- A record without flag bit 6, tail and masks, of an arm that is not VPSCATTER's, shows no mask, no broadcast and no tail.
-- Assumes nothing.
use mathlib.Core.Path.{◌≡◌, refl, sym, ap, ◌∙◌}
use mathlib.Core.Bool.{Bool, true, false, not, ◌&&◌, true≢false}
use mathlib.Core.List.{[], ◌∷◌}
use Prim.Native.Nat.{ℕ, ◌<◌}
use lib.Dec.{T, eqb}
use lib.ListN.{get_or, take}
use lib.Seq.{get_or-take}
use borrow.Author.Tests.{not-true}
use Rattle.text.specs.Words.{every}
use Rattle.text.proofs.Choosing.{cond_by}
use Rattle.text.proofs.Tables.{both_left, both_right, so, every_at}
use Rattle.operands.specs.Kinds.{is_absent, is_register, is_register_r, is_memory}
use Rattle.operands.specs.Parts.{operand_in, mask_of}
use Rattle.std.specs.Prelude.{Some, None}
use Rattle.operands.specs.declared.Instruction.{Instruction}
use Rattle.operands.specs.declared.Item.{Item}
use Rattle.operands.specs.declared.Tail.TheVariants as tail
use Rattle.branches.specs.declared.Mode.{Mode}
use Rattle.names.specs.Among.{is_one_of}
use Rattle.names.specs.Opcodes.{opcodes, arms as opcode_arms, arm_of}
use Rattle.names.specs.declared.Arm.{Arm}
use Rattle.names.specs.declared.Arm.TheVariants as arms
use Rattle.places.specs.Places.{operand_shown, item_at}
use Rattle.places.specs.declared.Mask.TheVariants.{Itself, Second}
use Rattle.places.specs.declared.Place.{Place}
use Rattle.places.specs.declared.Place.TheVariants as place
use Rattle.places.specs.declared.Plan.{Plan}
use Rattle.arms.specs.Tests.{is_branch, is_xbegin}
use Rattle.arms.specs.Plans.{spread, general, places_of, plan_of}
use Rattle.arms.specs.Size.{general_path}
use Rattle.arms.specs.Decorations.{is_broadcast}
use Rattle.arms.proofs.GeneralPath.{general_plan_lem}
use Rattle.arms.proofs.Over16.{plan_of-bare, plan_of_own}
use Rattle.arms.proofs.Tails.{places_end}

-- the arms of VPSCATTER
abbrev pub is_scatter_arm : Arm → Bool
is_scatter_arm arm = is_one_of arm (arms.ScatterDword ∷ arms.ScatterQword ∷ [])

-- document 01's opcodes have none of them, by one test over their arms
old_arms : T (every (λ (a : Arm). not (is_scatter_arm a)) (take 154 opcode_arms))
unfolding opcode_arms opcodes
old_arms = tt

pub old_arm : (opcode : ℕ) → opcode < 154 → is_scatter_arm (arm_of opcode) ≡ false
unfolding arm_of opcode_arms opcodes
old_arm opcode h =
    let here = every_at (λ (a : Arm). not (is_scatter_arm a)) arms.General (take 154 opcode_arms) old_arms opcode h in
    not-true (is_scatter_arm (get_or opcode_arms opcode arms.General))
    (so (not (is_scatter_arm (get_or opcode_arms opcode arms.General))) (rw (get_or-take 154 opcode_arms opcode arms.General h) at here))

-- a place that shows its operand's own mask, and no broadcast
abbrev is_plain : Place → Bool
is_plain place.Nothing = true
is_plain (place.Register reg) = true
is_plain place.Branch = true
is_plain (place.Operand k label segment short Itself None) = true
is_plain (place.Operand k label segment short Itself (Some n)) = false
is_plain (place.Operand k label segment short Second b) = false

abbrev plan_plain : Plan → Bool
plan_plain plan = is_plain plan.a && (is_plain plan.b && (is_plain plan.c && is_plain plan.d))

places-plain : (arm : Arm) (i : Instruction) → is_scatter_arm arm ≡ false → T (plan_plain (places_of arm i))
unfolding places_of general spread
places-plain arms.Branch i e = cond_by (λ (p : Plan). T (plan_plain p)) (is_branch i.a) (λ f. tt) (λ f. tt)
places-plain arms.Call i e = cond_by (λ (p : Plan). T (plan_plain p)) (is_branch i.a) (λ f. tt) (λ f. tt)
places-plain arms.Xbegin i e = cond_by (λ (p : Plan). T (plan_plain p)) (is_xbegin i.a) (λ f. tt) (λ f. tt)
places-plain arms.Lsl i e = cond_by (λ (p : Plan). T (plan_plain p)) (is_register i.a && is_register i.b) (λ f. tt) (λ f. tt)
places-plain arms.Nop i e = cond_by (λ (p : Plan). T (plan_plain p)) (is_absent i.b) (λ f. tt) (λ f. tt)
places-plain arms.ScatterDword i e = absurd (true≢false e)
places-plain arms.ScatterQword i e = absurd (true≢false e)
places-plain arms.Aam i e = cond_by (λ (p : Plan). T (plan_plain p)) (eqb i.imm 10) (λ f. tt) (λ f. tt)
places-plain arms.Fadd i e = cond_by (λ (p : Plan). T (plan_plain p)) (is_memory i.b) (λ f. tt) (λ f. cond_by (λ (p : Plan). T (plan_plain p)) (is_register_r i.a) (λ g. tt) (λ g. tt))
places-plain _ i e = tt

-- an item shows no mask and no broadcast
pub record Plain (x : Item) : Type 0 where
  pub mask : x.mask ≡ 0
  pub broadcast : x.broadcast ≡ None

module _ (mode : Mode) (arm : Arm) (i : Instruction) (masks : (k : ℕ) → mask_of (operand_in i k) ≡ 0) where
  item-plain : (p : Place) → T (is_plain p) → Plain (item_at mode arm i p)
  unfolding item_at operand_shown
  item-plain place.Nothing t = record { mask = refl; broadcast = refl }
  item-plain (place.Register reg) t = record { mask = refl; broadcast = refl }
  item-plain place.Branch t = record { mask = refl; broadcast = refl }
  item-plain (place.Operand k label segment short Itself None) t =
      record { mask = masks k; broadcast = cond_by (λ b. b ≡ None) (is_memory (operand_in i k)) (λ e. refl) (λ e. refl) }
  item-plain (place.Operand k label segment short Itself (Some n)) t = absurd t
  item-plain (place.Operand k label segment short Second b) t = absurd t

  module _ (scatters : is_scatter_arm arm ≡ false) (once : is_broadcast i ≡ false) (untailed : i.tail ≡ 0) where
    plan_is_places : plan_of arm i ≡ places_of arm i
    plan_is_places = go (general_path arm i) refl
      where
        go : (g : Bool) → general_path arm i ≡ g → plan_of arm i ≡ places_of arm i
        go true e = sym (plan_of-bare arm i e once untailed) ∙ sym (general_plan_lem i arm e)
        go false e = sym (plan_of_own arm i e)

    plain : T (plan_plain (plan_of arm i))
    plain = rw plan_is_places (places-plain arm i scatters)

    pub plain_a : Plain (item_at mode arm i (plan_of arm i).a)
    plain_a = item-plain (plan_of arm i).a (both_left (is_plain (plan_of arm i).a) (is_plain (plan_of arm i).b && (is_plain (plan_of arm i).c && is_plain (plan_of arm i).d)) plain)

    after_a : T (is_plain (plan_of arm i).b && (is_plain (plan_of arm i).c && is_plain (plan_of arm i).d))
    after_a = both_right (is_plain (plan_of arm i).a) (is_plain (plan_of arm i).b && (is_plain (plan_of arm i).c && is_plain (plan_of arm i).d)) plain

    after_b : T (is_plain (plan_of arm i).c && is_plain (plan_of arm i).d)
    after_b = both_right (is_plain (plan_of arm i).b) (is_plain (plan_of arm i).c && is_plain (plan_of arm i).d) after_a

    pub plain_b : Plain (item_at mode arm i (plan_of arm i).b)
    plain_b = item-plain (plan_of arm i).b (both_left (is_plain (plan_of arm i).b) (is_plain (plan_of arm i).c && is_plain (plan_of arm i).d) after_a)

    pub plain_c : Plain (item_at mode arm i (plan_of arm i).c)
    plain_c = item-plain (plan_of arm i).c (both_left (is_plain (plan_of arm i).c) (is_plain (plan_of arm i).d) after_b)

    pub plain_d : Plain (item_at mode arm i (plan_of arm i).d)
    plain_d = item-plain (plan_of arm i).d (both_right (is_plain (plan_of arm i).c) (is_plain (plan_of arm i).d) after_b)

    pub plain_tail : (plan_of arm i).tail ≡ tail.None
    plain_tail = ap (λ (p : Plan). p.tail) plan_is_places ∙ places_end arm i
