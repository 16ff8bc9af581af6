-- Document 01, "Branches in two modes", and document 02's third mode: what a branch operand shows, as a signed number and then as its sign
-- and size, or as its target.
-- Assumes nothing.
use Rattle.std.specs.Prelude.{ℕ, suc, ◌+◌, ◌-◌, ◌%◌, ◌^◌, Bool, true, false, cond, ◌&&◌, [], ◌∷◌, ℤ, pos, negsuc, ◌+ℤ◌, ◌==◌, nat_le, unsigned_abs}
unfoldable pub use Rattle.frames.specs.Numbers.{signed}
use Rattle.operands.specs.Kinds.{i8, i32}
use Rattle.operands.specs.declared.BranchWord.{BranchWord}
use Rattle.operands.specs.declared.BranchWord.TheVariants.{None, Short, Near}
use Rattle.operands.specs.declared.Shown.{Shown}
use Rattle.operands.specs.declared.Shown.TheVariants.{Branch, Target}
use Rattle.names.specs.declared.Arm.{Arm}
use Rattle.names.specs.declared.Arm.TheVariants.{Call, Xbegin}
use Rattle.names.specs.Among.{is_one_of}
use Rattle.branches.specs.declared.Mode.{Mode}
use Rattle.branches.specs.declared.Mode.TheVariants as mode
use Rattle.branches.specs.declared.Mode.TheVariants.{Crate, Straight}

-- Distance plus length of a kind 3 branch. "Mode 0 is the crate's: the sum wraps in the width of the distance", 8 bits here.
-- "Mode 1, straight, is added: a kind 3 sum is kept whole". Mode 2 shows no sum; it is mode 1 but for the target.
abbrev pub short_sum : Mode → ℕ → ℕ → ℤ
short_sum Crate value length = signed 8 (value + length)
short_sum Straight value length = signed 32 value +ℤ pos length
short_sum mode.Target value length = signed 32 value +ℤ pos length

-- Distance plus length. Of any other kind than 3 it wraps in 32 bits, in mode 1 too: "all else is mode 0".
unfoldable pub branch_sum : Mode → ℕ → ℕ → ℕ → ℤ
branch_sum mode kind value length = cond (kind == i8) (short_sum mode value length) (signed 32 (value + length))

-- a sum below 0 shows a minus
abbrev pub below0 : ℤ → Bool
below0 (pos n) = false
below0 (negsuc n) = true

-- "a sum of 128 to 255"
abbrev pub from128to255 : ℤ → Bool
from128to255 (pos n) = nat_le 128 n && nat_le n 255
from128to255 (negsuc n) = false

-- mode 0: "kind 5 with a sum of 128 to 255 gets `near ptr ` in front"
abbrev pub crate_word : ℕ → ℤ → BranchWord
crate_word kind sum = cond (kind == i32 && from128to255 sum) Near None

-- mode 1, of an opcode with a short form
abbrev pub straight_word : ℕ → BranchWord
straight_word kind = cond (kind == i32) Near (cond (kind == i8) Short None)

-- mode 1, by arm and kind: "In mode 1 a kind 5 branch prints `near ptr ` at all sums and a kind 3 one `short `, except that CALL and
-- XBEGIN, which have no short form, print neither."
abbrev pub arm_word : Arm → ℕ → BranchWord
arm_word arm kind = cond (is_one_of arm (Call ∷ Xbegin ∷ [])) None (straight_word kind)

-- The word before `$`, by mode, arm, kind and sum. Document 02, W-202: "Mode 0 stays the crate's"; mode 2 prints the target "after the
-- words of W-202".
abbrev pub branch_word : Mode → Arm → ℕ → ℤ → BranchWord
branch_word Crate arm kind sum = crate_word kind sum
branch_word Straight arm kind sum = arm_word arm kind
branch_word mode.Target arm kind sum = arm_word arm kind

-- an integer modulo 2^32: below 0, what is missing to the next multiple of 2^32
abbrev pub modulo : ℤ → ℕ
modulo (pos n) = n % 2 ^ 32
modulo (negsuc n) = (2 ^ 32 - suc n % 2 ^ 32) % 2 ^ 32

-- "the target is the next instruction plus the distance", modulo 2^32: from the start address, the instruction's length and the
-- distance as 32 bits
abbrev pub target_of : ℕ → ℕ → ℕ → ℕ
target_of start length value = modulo (pos start +ℤ pos length +ℤ signed 32 value)

-- What a branch operand shows in modes 0 and 1, by the arm that shows it, its kind, its distance as 32 bits, and the instruction's
-- length: the word, and "`$`, sign and numeral of distance plus length".
abbrev pub shown_sum : Mode → Arm → ℕ → ℤ → Shown
shown_sum mode arm kind sum = Branch (branch_word mode arm kind sum) (below0 sum) (unsigned_abs sum)

-- What it shows, with the start address. Document 02, W-205: "New mode 2 .. prints the branch target .. after the words of W-202".
unfoldable pub branch_shown : Mode → Arm → (kind value length start : ℕ) → Shown
branch_shown Crate arm kind value length start = shown_sum Crate arm kind (branch_sum Crate kind value length)
branch_shown Straight arm kind value length start = shown_sum Straight arm kind (branch_sum Straight kind value length)
branch_shown mode.Target arm kind value length start = Target (arm_word arm kind) (target_of start length value)
