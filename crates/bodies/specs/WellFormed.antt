-- What holds of the Instruction of every accepted body: document 01's record rules as the crates above use them.
-- Assumes nothing.
use Rattle.std.specs.Prelude.{true, false, ◌||◌, List, ◌⊎◌, ◌≡◌, ℕ, ◌-◌, ◌^◌, ◌≤◌, ◌<◌, pos}
use Rattle.std.specs.Int.{w32}
use Rattle.std.proofs.Common.{SFits}
use Rattle.names.specs.Opcodes.{opcode_count}
use Rattle.operands.specs.declared.Address.{Address}
use Rattle.operands.specs.declared.Operand.{Operand}
use Rattle.operands.specs.declared.Operand.TheVariants.{Absent, Register, Imm, Absolute16, Absolute32, Memory}
use Rattle.operands.specs.declared.Instruction.{Instruction}
use Rattle.operands.specs.Kinds.{is_absent}
use Rattle.frames.specs.Numbers.{byte}

-- the numbers of the list are bytes, as those of a slice of bytes are
abbrev pub Bytes : List ℕ → Type 0
Bytes body = (at : ℕ) → byte body at < 2 ^ 8

-- kinds 1 and 2: a place, and a byte that is a register
pub record RegisterKept (place reg : ℕ) : Type 0 where
  pub place_least : 1 ≤ place
  pub place_most : place ≤ 2
  pub below : reg < 80
  pub not_30 : reg ≡ 30 → ⊥
  pub not_31 : reg ≡ 31 → ⊥

-- kinds 3 to 8: the value fits its kind; a signed one is near 0 from either side, as 32 bits
pub record ImmKept (kind value : ℕ) : Type 0 where
  pub kind_least : 3 ≤ kind
  pub kind_most : kind ≤ 8
  pub fits : value < 2 ^ 32
  pub i8 : kind ≡ 3 → (value < 2 ^ 7) ⊎ (2 ^ 32 - 2 ^ 7 ≤ value)
  pub i16 : kind ≡ 4 → (value < 2 ^ 15) ⊎ (2 ^ 32 - 2 ^ 15 ≤ value)
  pub u8 : kind ≡ 6 → value < 2 ^ 8
  pub u16 : kind ≡ 7 → value < 2 ^ 16

-- "1, 2, 4 or 8"
abbrev pub ScaleKept : ℕ → Type 0
ScaleKept scale = (scale ≡ 1) ⊎ ((scale ≡ 2) ⊎ ((scale ≡ 4) ⊎ (scale ≡ 8)))

-- an index of banks 0 and 1, or of banks 6 to 8
abbrev pub IndexKept : ℕ → Type 0
IndexKept reg = (reg < 16) ⊎ ((48 ≤ reg) × (reg < 72))

-- the twelve forms of a bracket: a base of banks 0 and 1, an index, one of them at least, and nothing in a part that the kind lacks
pub record AddressKept (a : Address) : Type 0 where
  pub base : a.base < 16
  pub index : IndexKept a.index
  pub scale : a.indexed ≡ true → ScaleKept a.scale
  pub disp : SFits w32 a.disp
  pub some_register : (a.based || a.indexed) ≡ true
  pub no_base : a.based ≡ false → a.base ≡ 0
  pub no_index : a.indexed ≡ false → (a.index ≡ 0) × (a.scale ≡ 0)
  pub no_disp : a.displaced ≡ false → a.disp ≡ pos 0

-- no mask, or "k1 to k7"
abbrev pub MaskKept : ℕ → Type 0
MaskKept mask = (mask ≡ 0) ⊎ ((73 ≤ mask) × (mask < 80))

-- an operand keeps the rules of its kind; a segment is "0 for none or 1 to 6"
abbrev pub Kept : Operand → Type 0
Kept Absent = Unit {0}
Kept (Register place reg) = RegisterKept place reg
Kept (Imm kind value) = ImmKept kind value
Kept (Absolute16 segment address) = (segment ≤ 6) × (address < 2 ^ 16)
Kept (Absolute32 segment address) = (segment ≤ 6) × (address < 2 ^ 32)
Kept (Memory segment address mask) = (segment ≤ 6) × (AddressKept address × MaskKept mask)

-- every field keeps its rule, and no operand stands after an absent one
pub record WellFormed (i : Instruction) : Type 0 where
  pub opcode : i.opcode < opcode_count
  pub flags : i.flags < 128
  pub length_least : 1 ≤ i.length
  pub length_most : i.length ≤ 15
  pub size : i.size < 2 ^ 8
  pub imm : i.imm < 2 ^ 32
  pub bits : i.bits < 4
  pub tail : i.tail ≤ 2
  pub a : Kept i.a
  pub b : Kept i.b
  pub c : Kept i.c
  pub d : Kept i.d
  pub no_a : is_absent i.a ≡ true → is_absent i.b ≡ true
  pub no_b : is_absent i.b ≡ true → is_absent i.c ≡ true
  pub no_c : is_absent i.c ≡ true → is_absent i.d ≡ true
