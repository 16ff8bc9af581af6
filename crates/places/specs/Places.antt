-- What a place shows of a record, by the mode and the arm.
-- Assumes nothing.
use Rattle.std.specs.Prelude.{Bool, cond, ◌&&◌, ℕ, eqb, Option}
use Rattle.std.specs.Prelude as option
use Rattle.operands.specs.Kinds.{is_memory}
use Rattle.operands.specs.Parts.{operand_in, shown_of, segment_of, register_of, immediate_kind, immediate_of, mask_of, is_st0, item, bare, nothing}
use Rattle.operands.specs.declared.Operand.{Operand}
use Rattle.operands.specs.declared.Instruction.{Instruction}
use Rattle.operands.specs.declared.Label.{Label}
use Rattle.operands.specs.declared.Label.TheVariants.{None}
use Rattle.operands.specs.declared.Shown.{Shown}
use Rattle.operands.specs.declared.Shown.TheVariants.{Name, St}
use Rattle.operands.specs.declared.Item.{Item}
use Rattle.operands.specs.declared.Items.{Items}
use Rattle.names.specs.declared.Arm.{Arm}
use Rattle.branches.specs.declared.Mode.{Mode}
use Rattle.branches.specs.Sums.{branch_shown}
use Rattle.places.specs.declared.Segment.{Segment}
use Rattle.places.specs.declared.Segment.TheVariants.{Hidden, Shown as Own, UnlessDs}
use Rattle.places.specs.declared.Mask.{Mask}
use Rattle.places.specs.declared.Mask.TheVariants.{Itself, Second}
use Rattle.places.specs.declared.Place.{Place}
use Rattle.places.specs.declared.Place.TheVariants as place
use Rattle.places.specs.declared.Plan.{Plan}

-- the segment that is shown of an operand, 0 for none; ds is segment 4
abbrev pub segment_shown : Segment → Operand → ℕ
segment_shown Hidden o = 0
segment_shown Own o = segment_of o
segment_shown UnlessDs o = cond (eqb (segment_of o) 4) 0 (segment_of o)

-- a label stands before memory alone
abbrev pub label_shown : Label → Operand → Label
label_shown label o = cond (is_memory o) label None

-- the operand itself; where the place shortens it, `st` for st(0)
abbrev pub value_shown : Bool → Operand → Shown
value_shown short o = cond (short && is_st0 o) St (shown_of o)

-- the mask after memory, 0 for none: the operand's own, or operand 1's register
abbrev pub mask_shown : Mask → (second : ℕ) → Operand → ℕ
mask_shown Itself second o = mask_of o
mask_shown Second second o = cond (is_memory o) second 0

-- a broadcast stands after memory alone
abbrev pub broadcast_shown : Option ℕ → Operand → Option ℕ
broadcast_shown b o = cond (is_memory o) b option.None

-- an operand at a place; `second` is operand 1's register
unfoldable pub operand_shown : Label → Segment → Bool → Mask → (second : ℕ) → Option ℕ → Operand → Item
operand_shown label segment short mask second b o =
    item (label_shown label o) (segment_shown segment o) (value_shown short o) (mask_shown mask second o) (broadcast_shown b o)

-- the branch of a record's operand 0: the arm that shows it, its kind, its distance, the instruction's length and its start address
abbrev pub branch_of : Mode → Arm → Instruction → Shown
branch_of mode arm i = branch_shown mode arm (immediate_kind i.a) (immediate_of i.a) i.length i.start

unfoldable pub item_at : Mode → Arm → Instruction → Place → Item
item_at mode arm i place.Nothing = nothing
item_at mode arm i (place.Register reg) = bare (Name reg)
item_at mode arm i place.Branch = bare (branch_of mode arm i)
item_at mode arm i (place.Operand k label segment short mask b) =
    operand_shown label segment short mask (register_of i.b) b (operand_in i k)

-- what a plan shows, from the left
unfoldable pub items_at : Mode → Arm → Instruction → Plan → Items
items_at mode arm i plan =
    record {
      a = item_at mode arm i plan.a;
      b = item_at mode arm i plan.b;
      c = item_at mode arm i plan.c;
      d = item_at mode arm i plan.d;
    }
