-- Of what a place shows, only a branch's target depends on the start address.
-- Assumes nothing.
use mathlib.Core.Path.{◌≡◌, refl, ap}
use Prim.Native.Nat.{ℕ, zero, suc}
use Rattle.operands.specs.Parts.{operand_in, starting_at, bare}
use Rattle.operands.specs.declared.Instruction.{Instruction}
use Rattle.names.specs.declared.Arm.{Arm}
use Rattle.branches.specs.Sums.{branch_shown}
use Rattle.branches.specs.declared.Mode.{Mode}
use Rattle.branches.specs.declared.Mode.TheVariants.{Crate, Straight, Target}
use Rattle.places.specs.declared.Place.{Place}
use Rattle.places.specs.declared.Place.TheVariants as place
use Rattle.places.specs.declared.Plan.{Plan}
use Rattle.places.specs.Order.{is_nothing, from_the_left}
use Rattle.places.specs.Places.{branch_of, item_at, items_at}

pub operand_unstarted : (start : ℕ) (i : Instruction) (k : ℕ) → operand_in (starting_at start i) k ≡ operand_in i k
operand_unstarted start i zero = refl
operand_unstarted start i (suc zero) = refl
operand_unstarted start i (suc (suc zero)) = refl
operand_unstarted start i (suc (suc (suc zero))) = refl
operand_unstarted start i (suc (suc (suc (suc k)))) = refl

module _ (mode : Mode) (arm : Arm) (start : ℕ) (i : Instruction) where
  pub nothing_unstarted : (p : Place) → is_nothing (item_at mode arm (starting_at start i) p).shown ≡ is_nothing (item_at mode arm i p).shown
  unfolding item_at branch_shown
  nothing_unstarted place.Branch = by mode
    where
      by : (m : Mode) → is_nothing (item_at m arm (starting_at start i) place.Branch).shown ≡ is_nothing (item_at m arm i place.Branch).shown
      by Crate = refl
      by Straight = refl
      by Target = refl
  nothing_unstarted (place.Operand k label segment short mask b) = rw (operand_unstarted start i k)
  nothing_unstarted _ = refl

  pub mask_unstarted : (p : Place) → (item_at mode arm (starting_at start i) p).mask ≡ (item_at mode arm i p).mask
  unfolding item_at
  mask_unstarted (place.Operand k label segment short mask b) = rw (operand_unstarted start i k)
  mask_unstarted _ = refl

  pub broadcast_unstarted : (p : Place) → (item_at mode arm (starting_at start i) p).broadcast ≡ (item_at mode arm i p).broadcast
  unfolding item_at
  broadcast_unstarted (place.Operand k label segment short mask b) = rw (operand_unstarted start i k)
  broadcast_unstarted _ = refl

  pub left_unstarted : (plan : Plan) → from_the_left (items_at mode arm (starting_at start i) plan) ≡ from_the_left (items_at mode arm i plan)
  unfolding items_at
  left_unstarted plan =
      rw (nothing_unstarted plan.a, nothing_unstarted plan.b, nothing_unstarted plan.c, nothing_unstarted plan.d)

  -- and in modes 0 and 1 nothing does
  pub items_unstarted : (mode ≡ Target → ⊥) → (plan : Plan) → items_at mode arm (starting_at start i) plan ≡ items_at mode arm i plan
  unfolding items_at item_at branch_shown
  items_unstarted other plan = rw (same plan.a, same plan.b, same plan.c, same plan.d)
    where
      branch : (m : Mode) → (m ≡ Target → ⊥) → branch_of m arm (starting_at start i) ≡ branch_of m arm i
      branch Crate o = refl
      branch Straight o = refl
      branch Target o = absurd (o refl)

      same : (p : Place) → item_at mode arm (starting_at start i) p ≡ item_at mode arm i p
      same place.Nothing = refl
      same (place.Register reg) = refl
      same place.Branch = ap bare (branch mode other)
      same (place.Operand k label segment short mask b) = rw (operand_unstarted start i k)
