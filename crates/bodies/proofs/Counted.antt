-- The operands of a body that stores at most four.
-- Assumes nothing.
use mathlib.Core.Path.{◌≡◌, refl}
use mathlib.Core.List.{List}
use Prim.Native.Nat.{ℕ, zero, suc, ◌≤◌}
use native.Mathlib.Omega.{arith}
use borrow.Author.Tests.{le-ltb}
use Rattle.operands.specs.Parts.{operand_in}
use Rattle.bodies.specs.Body.{count_of}
use Rattle.bodies.specs.Decoding.{operand_at, instruction_of}

-- operand k of the body is operand k of its record, also where there is none
pub operand_in_lem : (body : List ℕ) → count_of body ≤ 4 → (k : ℕ) → operand_at body k ≡ operand_in (instruction_of body) k
unfolding instruction_of operand_at
operand_in_lem body few zero = refl
operand_in_lem body few (suc zero) = refl
operand_in_lem body few (suc (suc zero)) = refl
operand_in_lem body few (suc (suc (suc zero))) = refl
operand_in_lem body few (suc (suc (suc (suc k)))) = rw (le-ltb (suc (suc (suc (suc k)))) (count_of body) (omega arith))
