-- A line that can be read: what holds of every line that is printed.
-- Assumes nothing.
use mathlib.Core.Bool.{Bool, true, false}
use mathlib.Core.Path.{◌≡◌}
use mathlib.Core.Logic.{◌⊎◌}
use Prim.Native.Nat.{ℕ, ◌^◌, ◌<◌, ◌≤◌}
use Rattle.operands.specs.declared.Label.TheVariants as label
use Rattle.operands.specs.declared.Shown.{Shown}
use Rattle.operands.specs.declared.Shown.TheVariants.{Nothing, Name, St, Number, Word, Dword, Bracket, Branch, Target}
use Rattle.std.specs.Prelude.{Option as Optional, Some, None}
use Rattle.operands.specs.declared.Tail.TheVariants as tail
use Rattle.operands.specs.declared.Item.{Item}
use Rattle.bodies.specs.WellFormed.{AddressKept}
use Rattle.names.specs.Opcodes.{opcode_count}
use Rattle.lines.specs.declared.Line.{Line}
use Rattle.lines.specs.declared.Name.{Name as Mnemonic}
use Rattle.lines.specs.declared.Name.TheVariants.{Opcode, Feni, Fdisi, Fsetpm}
pub use Rattle.arms.proofs.Labelled.{is_missing, lacks_label}
pub use Rattle.places.specs.Order.{counted, is_nothing, from_the_left}

-- a register byte that has a name
pub record Named (reg : ℕ) : Type 0 where
  pub below : reg < 80
  pub not_30 : reg ≡ 30 → ⊥
  pub not_31 : reg ≡ 31 → ⊥

-- what is shown has a name, and is no larger than its form can show
abbrev pub SoundShown : Shown → Type 0
SoundShown Nothing = Unit {0}
SoundShown (Name reg) = Named reg
SoundShown St = Unit {0}
SoundShown (Number value) = value < 2 ^ 32
SoundShown (Word address) = address < 2 ^ 16
SoundShown (Dword address) = address < 2 ^ 32
SoundShown (Bracket address) = AddressKept address
SoundShown (Branch word minus size) = size < 2 ^ 32
SoundShown (Target word target) = target < 2 ^ 32

-- an address: a label and a segment stand before nothing else
abbrev pub is_address : Shown → Bool
is_address Nothing = false
is_address (Name reg) = false
is_address St = false
is_address (Number value) = false
is_address (Word address) = true
is_address (Dword address) = true
is_address (Bracket address) = true
is_address (Branch word minus size) = false
is_address (Target word target) = false

-- a branch, by `$` and what follows
abbrev pub is_branch_shown : Shown → Bool
is_branch_shown Nothing = false
is_branch_shown (Name reg) = false
is_branch_shown St = false
is_branch_shown (Number value) = false
is_branch_shown (Word address) = false
is_branch_shown (Dword address) = false
is_branch_shown (Bracket address) = false
is_branch_shown (Branch word minus size) = true
is_branch_shown (Target word target) = false

-- a mask: none, or k0 to k7
abbrev pub SoundMask : ℕ → Type 0
SoundMask mask = (mask ≡ 0) ⊎ ((72 ≤ mask) × (mask < 80))

-- N is at most 16
abbrev pub SoundBroadcast : Optional ℕ → Type 0
SoundBroadcast None = Unit {0}
SoundBroadcast (Some n) = n ≤ 16

-- nothing stands before it or after it
pub record Bare (x : Item) : Type 0 where
  pub label : x.label ≡ label.None
  pub segment : x.segment ≡ 0
  pub mask : x.mask ≡ 0
  pub broadcast : x.broadcast ≡ None

-- an operand of a line: what is shown, after a known segment and before a known mask and N; what is no address has none of these; a
-- branch only where the record is one
pub record SoundItem (branches : Bool) (x : Item) : Type 0 where
  pub shown : SoundShown x.shown
  pub segment : x.segment ≤ 6
  pub mask : SoundMask x.mask
  pub broadcast : SoundBroadcast x.broadcast
  pub bare : is_address x.shown ≡ false → Bare x
  pub branch : is_branch_shown x.shown ≡ true → branches ≡ true

-- the mnemonic is an opcode's name, or one of the three words
abbrev pub SoundName : Mnemonic → Type 0
SoundName (Opcode opcode) = opcode < opcode_count
SoundName Feni = Unit {0}
SoundName Fdisi = Unit {0}
SoundName Fsetpm = Unit {0}

-- a line: no label is missing, its operands stand from the left with none left out, and a tail stands after an operand
pub record Sound (branches : Bool) (l : Line) : Type 0 where
  pub name : SoundName l.head.name
  pub a : SoundItem branches l.items.a
  pub b : SoundItem branches l.items.b
  pub c : SoundItem branches l.items.c
  pub d : SoundItem branches l.items.d
  pub labels : lacks_label l.items ≡ false
  pub ordered : from_the_left l.items ≡ true
  pub ended : is_nothing l.items.a.shown ≡ true → l.tail ≡ tail.None
