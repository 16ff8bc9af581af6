-- Document 02, W-204: `{1toN}`, the tail, and answer 7.
-- Assumes nothing.
use Rattle.std.specs.Prelude.{Bool, cond, ◌&&◌, ◌||◌, ℕ, ◌/◌, eqb, ltb, Option, Some, None}
use Rattle.operands.specs.Flags.{bit}
use Rattle.operands.specs.Kinds.{is_absent, is_memory}
use Rattle.operands.specs.Parts.{width_of}
use Rattle.operands.specs.declared.Operand.{Operand}
use Rattle.operands.specs.declared.Instruction.{Instruction}
use Rattle.operands.specs.declared.Tail.{Tail}
use Rattle.operands.specs.declared.Tail.TheVariants as tail
use Rattle.names.specs.declared.Arm.{Arm}
use Rattle.names.specs.declared.Arm.TheVariants.{Singles, Doubles}
use Rattle.names.specs.Among.{is_arm}
use Rattle.arms.specs.Size.{general_path}

-- ---- "Flag bit 6 puts `{1toN}` on the general path's memory operands after the first."

abbrev pub is_broadcast : Instruction → Bool
is_broadcast i = bit 6 i.flags

-- "N follows document 000: its special tables": one number with l, else another with lp, else a third; "bit 0 l, bit 1 lp"
abbrev pub by_bits : (l lp neither : ℕ) → ℕ → ℕ
by_bits l lp neither bits = cond (bit 0 bits) l (cond (bit 1 bits) lp neither)

-- "else the width in bytes of the operand before, divided by mem_size and rounded down, or 0 where it has none or mem_size is 0"
abbrev pub quotient : (width size : ℕ) → ℕ
quotient width size = cond (eqb size 0) 0 (width / size)

-- N, by the operand before: VFPCLASSPS and VCVTNEPS2BF16 have 4, 8 or 16 to a vector, the other fifteen 2, 4 or 8
unfoldable pub broadcast_count : Arm → Instruction → (before : Operand) → ℕ
broadcast_count arm i before =
    cond (is_arm arm Singles) (by_bits 8 16 4 i.bits)
    (cond (is_arm arm Doubles) (by_bits 4 8 2 i.bits)
    (quotient (width_of before) i.size))

-- the broadcast of the operand after this one
abbrev pub broadcast_after : Arm → Instruction → (before : Operand) → Option ℕ
broadcast_after arm i before = cond (is_broadcast i) (Some (broadcast_count arm i before)) None

-- ---- "a tail for the general path, 0 none, 1 `{sae}`, 2 the Intel manual's rounding word for those bits"

-- the length bits 0 to 3 are the manual's rounding modes: to nearest, down, up, toward zero
abbrev pub rounding_of : (bits : ℕ) → Tail
rounding_of bits = cond (eqb bits 0) tail.Nearest (cond (eqb bits 1) tail.Down (cond (eqb bits 2) tail.Up tail.Zero))

-- after a blank it ends a line that shows an operand
unfoldable pub tail_of : Instruction → Tail
tail_of i =
    cond (is_absent i.a) tail.None
    (cond (eqb i.tail 1) tail.Sae
    (cond (eqb i.tail 2) (rounding_of i.bits) tail.None))

-- ---- Answer 7: "a printed `{1toN}` with N above 16"

-- an operand that prints one, by the operand before it
abbrev pub prints_over16 : Arm → Instruction → (before operand : Operand) → Bool
prints_over16 arm i before operand = is_memory operand && ltb 16 (broadcast_count arm i before)

unfoldable pub broadcast_refused : Arm → Instruction → Bool
broadcast_refused arm i =
    general_path arm i
    && (is_broadcast i && (prints_over16 arm i i.a i.b || prints_over16 arm i i.b i.c || prints_over16 arm i i.c i.d))
