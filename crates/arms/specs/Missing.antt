-- No promise names this: answers 5 and 7 as the code asks for them, a place of the plan that lacks its label or whose N is above 16. That
-- they are what `size_refused` and `broadcast_refused` say of the fields is a law.
-- Assumes nothing.
use Rattle.std.specs.Prelude.{Bool, true, false, ◌&&◌, ◌||◌, ℕ, ltb, Option, Some, None}
use Rattle.operands.specs.declared.Instruction.{Instruction}
use Rattle.operands.specs.declared.Label.{Label}
use Rattle.operands.specs.declared.Label.TheVariants as label
use Rattle.operands.specs.Kinds.{is_memory}
use Rattle.operands.specs.Parts.{operand_in}
use Rattle.places.specs.declared.Place.{Place}
use Rattle.places.specs.declared.Place.TheVariants as place
use Rattle.places.specs.declared.Plan.{Plan}

-- a label is called for and there is none
abbrev pub is_missing : Label → Bool
is_missing label.Missing = true
is_missing _ = false

-- a place calls for a label that there is not
abbrev pub place_misses : Place → Bool
place_misses (place.Operand k label segment short mask b) = is_missing label
place_misses _ = false

-- and it shows memory there
abbrev pub place_lacks : Instruction → Place → Bool
place_lacks i (place.Operand k label segment short mask b) = is_missing label && is_memory (operand_in i k)
place_lacks i _ = false

unfoldable pub plan_lacks : Instruction → Plan → Bool
plan_lacks i plan = place_lacks i plan.a || place_lacks i plan.b || place_lacks i plan.c || place_lacks i plan.d

-- `{1toN}` with N above 16
abbrev pub is_over16 : Option ℕ → Bool
is_over16 None = false
is_over16 (Some n) = ltb 16 n

abbrev pub place_over16 : Instruction → Place → Bool
place_over16 i (place.Operand k label segment short mask b) = is_over16 b && is_memory (operand_in i k)
place_over16 i _ = false

unfoldable pub plan_over16 : Instruction → Plan → Bool
plan_over16 i plan = place_over16 i plan.a || place_over16 i plan.b || place_over16 i plan.c || place_over16 i plan.d
