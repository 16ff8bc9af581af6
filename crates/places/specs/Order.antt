-- Operands from the left, with none left out, of a record and of a line. No promise names these definitions, only contracts inside
-- the printer.
-- Assumes nothing.
use Rattle.std.specs.Prelude.{Bool, true, false, not, ◌&&◌, ◌||◌}
use Rattle.operands.specs.Kinds.{is_absent}
use Rattle.operands.specs.declared.Instruction.{Instruction}
use Rattle.operands.specs.declared.Items.{Items}
use Rattle.operands.specs.declared.Shown.{Shown}
use Rattle.operands.specs.declared.Shown.TheVariants.{Nothing}

-- after an operand that is not there stands none: "an operand .. at or past the count"
abbrev pub counted : Instruction → Bool
counted i =
    (not (is_absent i.a) || is_absent i.b)
    && (not (is_absent i.b) || is_absent i.c)
    && (not (is_absent i.c) || is_absent i.d)

-- nothing is shown
abbrev pub is_nothing : Shown → Bool
is_nothing Nothing = true
is_nothing _ = false

-- after an operand of a line that shows nothing stands none that shows something
abbrev pub from_the_left : Items → Bool
from_the_left x =
    (not (is_nothing x.a.shown) || is_nothing x.b.shown)
    && (not (is_nothing x.b.shown) || is_nothing x.c.shown)
    && (not (is_nothing x.c.shown) || is_nothing x.d.shown)
