-- What single functions of the code are asked for, and no promise: names for parts of the texts.
-- Assumes nothing.
use Rattle.std.specs.Prelude.{Bool, Option, cond, ◌&&◌, List, ◌++◌, ℕ, eqb}
use Rattle.text.specs.Words.{bytes}
use Rattle.names.specs.Registers.{register_name}
use Rattle.operands.specs.RegisterBytes.{st0}
use Rattle.places.specs.declared.Mask.{Mask}
use Rattle.places.specs.declared.Mask.TheVariants.{Itself, Second}
use Rattle.places.specs.declared.Segment.{Segment}
use Rattle.places.specs.declared.Segment.TheVariants.{Hidden, Shown, UnlessDs}
use Rattle.places.specs.Places.{operand_shown}
use Rattle.operands.specs.declared.Label.{Label}
use Rattle.operands.specs.declared.Item.{Item}
use Rattle.operands.specs.declared.Operand.{Operand}
use Rattle.lines.specs.Fronts.{label_text, segment_text}
use Rattle.lines.specs.Brackets.{mask_text}
use Rattle.lines.specs.Items.{broadcast_text}
use Rattle.lines.specs.declared.place.Manner.{Manner}

-- the segment that a place shows of one that an operand has
abbrev pub shown_segment : Segment → ℕ → ℕ
shown_segment Hidden own = 0
shown_segment Shown own = own
shown_segment UnlessDs own = cond (eqb own 4) 0 own

-- the mask that a place shows of one that an operand has and of operand 1's register
abbrev pub shown_mask : Mask → (own second : ℕ) → ℕ
shown_mask Itself own second = own
shown_mask Second own second = second

-- a label and a segment
abbrev pub front_text : Label → ℕ → List ℕ
front_text label segment = label_text label ++ segment_text segment

-- a mask and a broadcast
abbrev pub end_text : ℕ → Option ℕ → List ℕ
end_text mask broadcast = mask_text mask ++ broadcast_text broadcast

-- an operand as a place shows it; `second` is operand 1's register
abbrev pub shown_in : Manner → (second : ℕ) → Operand → Item
shown_in m second o = operand_shown m.label m.segment m.short m.mask second m.broadcast o

-- a register, but `st` for st(0) where it is shortened
abbrev pub register_text : Bool → ℕ → List ℕ
register_text short reg = cond (short && eqb reg st0) (bytes "st") (register_name reg)

-- what parts the operand at place k from the text before it
abbrev pub separator_at : ℕ → List ℕ
separator_at k = cond (eqb k 0) (bytes " ") (bytes ", ")
