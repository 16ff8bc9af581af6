-- Where a branch record goes, how wide its distance is, and what it means that a text branches there.
-- Assumes nothing.
use Rattle.std.specs.Prelude.{Bool, true, false, cond, ◌&&◌, ◌||◌, List, [], ◌∷◌, ◌⊎◌, ◌↔◌, ◌≡◌, ℕ, suc, ◌+◌, ◌≤◌, ◌<◌, eqb, ℤ, pos, negsuc, ◌+ℤ◌}
use Rattle.std.proofs.Math.Option.{Option, none, some}
use Rattle.operands.specs.declared.Instruction.{Instruction}
use Rattle.operands.specs.Kinds.{i8, i32}
use Rattle.branches.specs.Sums.{signed, from128to255, target_of}
use Rattle.operands.specs.Parts.{immediate_kind, immediate_of}
use Rattle.records.specs.declared.Asked.{Asked}
use Rattle.masm.specs.Operands.{Width, Operand, register, immediate, sized, plain, branch, address}
use Rattle.masm.specs.Lines.{Line as Read, shows, read}

-- "Relative branches with kind 3 or 5 as operand 0, and XBEGIN with kind 5": JMP to JG are the opcodes below 22, and XBEGIN is 22
pub data BranchRecord (i : Instruction) : Type 0 where
  short : i.opcode < 22 → immediate_kind i.a ≡ i8 → BranchRecord i
  long : i.opcode ≤ 22 → immediate_kind i.a ≡ i32 → BranchRecord i

-- the distance, which the record holds as 32 bits
abbrev pub distance_of : Instruction → ℤ
distance_of i = signed 32 (immediate_of i.a)

-- where a branch record goes: "the target is the next instruction plus the distance", modulo 2^32
abbrev pub record_target : (start : ℕ) → Instruction → ℕ
record_target start i = target_of start i.length (immediate_of i.a)

-- MASM's reader takes the text for an instruction with one operand, a branch to the target; `width` is how many bits the word before `$`
-- gives its distance, if there is one
pub record BranchesTo (start : ℕ) (text : List ℕ) (width : Option Width) (target : ℕ) : Type 0 where
  pub line : Read
  pub reads : read start text ≡ shows line
  pub operand : line.operands ≡ branch width target ∷ []

-- Mode 2: MASM's reader takes the text, whatever start it is given, for one and the same instruction with one operand, this plain number;
-- `width` is how many bits the word before the number gives the distance, if there is one
pub record ShowsNumber (text : List ℕ) (width : Option Width) (number : ℕ) : Type 0 where
  pub line : Read
  pub reads : (start : ℕ) → read start text ≡ shows line
  pub operand : line.operands ≡ plain width number ∷ []

-- the same asked in another mode
abbrev pub in_mode : ℕ → Asked → Asked
in_mode mode asked = record { mode = mode; version = asked.version }

-- a branch operand: `$` and what follows, and no plain number
abbrev pub is_target : Operand → Bool
is_target (register r) = false
is_target (immediate n) = false
is_target (sized width n) = false
is_target (branch width target) = true
is_target (address label segment times disp mask copies) = false

abbrev pub any_target : List Operand → Bool
any_target [] = false
any_target (o ∷ os) = is_target o || any_target os

-- MASM's reader takes the text for an instruction with a branch among its operands
pub record ShowsBranch (start : ℕ) (text : List ℕ) : Type 0 where
  pub line : Read
  pub reads : read start text ≡ shows line
  pub target : any_target line.operands ≡ true

-- "Mode 0 is the crate's: the sum wraps in the width of the distance", 8 bits for kind 3 and 32 for kind 5
abbrev pub mode0_sum : Instruction → ℤ
mode0_sum i = signed (cond (eqb (immediate_kind i.a) i8) 8 32) (immediate_of i.a + i.length)

-- the width that mode 0's word gives: "kind 5 with a sum of 128 to 255 gets `near ptr ` in front", and no other branch has a word
abbrev pub mode0_width : Instruction → Option Width
mode0_width i = cond (eqb (immediate_kind i.a) i32 && from128to255 (mode0_sum i)) (some 32) none

-- "CALL and XBEGIN, which have no short form": CALL is 1, and XBEGIN is 22
abbrev pub no_short_form : Instruction → Bool
no_short_form i = eqb i.opcode 1 || eqb i.opcode 22

-- the width that the word of modes 1 and 2 gives: "a kind 5 branch prints `near ptr ` at all sums and a kind 3 one `short `, except that
-- CALL and XBEGIN .. print neither"
abbrev pub straight_width : Instruction → Option Width
straight_width i = cond (no_short_form i) none (cond (eqb (immediate_kind i.a) i8) (some 8) (some 32))

-- from -128 to 127
abbrev pub FitsByte : ℤ → Type 0
FitsByte (pos n) = n ≤ 127
FitsByte (negsuc n) = suc n ≤ 128

-- the branches that mode 0 prints as they are: the distance is 32 bits wide, or its sum with the length is from -128 to 127
abbrev pub FitsMode0 : Instruction → Type 0
FitsMode0 i = (immediate_kind i.a ≡ i32) ⊎ FitsByte (distance_of i +ℤ pos i.length)

-- Modes 1 and 2: CALL and XBEGIN alone have no width; of the others it is 8 exactly for kind 3 and 32 exactly for kind 5.
pub record StraightWidth (i : Instruction) (width : Option Width) : Type 0 where
  pub bits_8 : (width ≡ some 8) ↔ ((no_short_form i ≡ false) × (immediate_kind i.a ≡ i8))
  pub bits_32 : (width ≡ some 32) ↔ ((no_short_form i ≡ false) × (immediate_kind i.a ≡ i32))
  pub neither : (width ≡ none) ↔ (no_short_form i ≡ true)

-- Mode 0: it is 32 exactly for kind 5 with a sum of 128 to 255, and there is none else.
pub record Mode0Width (i : Instruction) (width : Option Width) : Type 0 where
  pub bits_32 : (width ≡ some 32) ↔ ((immediate_kind i.a ≡ i32) × (from128to255 (mode0_sum i) ≡ true))
  pub else_none : (width ≡ some 32) ⊎ (width ≡ none)
