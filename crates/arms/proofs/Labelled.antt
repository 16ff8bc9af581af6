-- A plan that lacks no label shows none that is missing. What is defined here serves laws alone, no promise.
-- Assumes nothing.
use mathlib.Core.Path.{◌≡◌, refl}
use mathlib.Core.Bool.{Bool, true, false, cond, ◌&&◌, ◌||◌, and-true}
use Rattle.operands.specs.Kinds.{is_memory}
use Rattle.operands.specs.Parts.{operand_in}
use Rattle.operands.specs.declared.Instruction.{Instruction}
use Rattle.operands.specs.declared.Items.{Items}
use Rattle.operands.specs.declared.Label.{Label}
use Rattle.operands.specs.declared.Label.TheVariants.{None}
use Rattle.branches.specs.declared.Mode.{Mode}
use Rattle.names.specs.declared.Arm.{Arm}
use Rattle.places.specs.declared.Place.{Place}
use Rattle.places.specs.declared.Place.TheVariants as place
use Rattle.places.specs.declared.Plan.{Plan}
use Rattle.places.specs.Places.{operand_shown, item_at, items_at}
use Rattle.bodies.proofs.Picks.{neither_left, neither_right}
pub use Rattle.arms.specs.Missing.{is_missing}
use Rattle.arms.specs.Missing.{place_lacks, plan_lacks}

-- some operand of a line lacks its label
abbrev pub lacks_label : Items → Bool
lacks_label x = is_missing x.a.label || is_missing x.b.label || is_missing x.c.label || is_missing x.d.label

there-before_memory : (l : Label) (memory : Bool) → (is_missing l && memory) ≡ false → is_missing (cond memory l None) ≡ false
there-before_memory l true e = simp and-true at e
there-before_memory l false e = refl

module _ (mode : Mode) (arm : Arm) (i : Instruction) where
  pub labels-there : (p : Place) → place_lacks i p ≡ false → is_missing (item_at mode arm i p).label ≡ false
  unfolding item_at operand_shown
  labels-there (place.Operand k label segment short mask b) e = there-before_memory label (is_memory (operand_in i k)) e
  labels-there _ e = refl

  pub plan_labels_there : (plan : Plan) → plan_lacks i plan ≡ false → lacks_label (items_at mode arm i plan) ≡ false
  unfolding plan_lacks items_at
  plan_labels_there plan e =
      rw (
        labels-there plan.a (search (neither_left, neither_right, e)),
        labels-there plan.b (search (neither_left, neither_right, e)),
        labels-there plan.c (search (neither_left, neither_right, e)),
        labels-there plan.d (search (neither_left, neither_right, e)),
      )
