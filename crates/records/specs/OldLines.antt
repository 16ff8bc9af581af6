-- What the line of a record that is not extended shows: nothing of document 02's.
-- Assumes nothing.
use Rattle.std.specs.Prelude.{◌≡◌, None}
use Rattle.operands.specs.declared.Item.{Item}
use Rattle.operands.specs.declared.Tail.TheVariants as tail
use Rattle.lines.specs.declared.Line.{Line}

-- no mask and no `{1toN}` after an operand
abbrev pub Undecorated : Item → Type 0
Undecorated x = (x.mask ≡ 0) × (x.broadcast ≡ None)

-- "Other records keep layout and lines": no mask, no `{1toN}` and no tail
pub record OldLine (l : Line) : Type 0 where
  pub a : Undecorated l.items.a
  pub b : Undecorated l.items.b
  pub c : Undecorated l.items.c
  pub d : Undecorated l.items.d
  pub tail : l.tail ≡ tail.None
