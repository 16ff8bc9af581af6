-- The arms of numbers that are no opcode.
-- Assumes nothing.
use mathlib.Core.Path.{◌≡◌}
use Prim.Native.Nat.{ℕ, ◌≤◌}
use lib.ListN.{get_or-eq_default}
use Rattle.names.specs.declared.Arm.TheVariants as arm
use Rattle.names.specs.Opcodes.{arms, arm_of, opcodes}

-- a number that is no opcode has the general path
pub arm_past : (opcode : ℕ) → 176 ≤ opcode → arm_of opcode ≡ arm.General
unfolding arm_of arms opcodes
arm_past opcode past = get_or-eq_default arms arm.General past
