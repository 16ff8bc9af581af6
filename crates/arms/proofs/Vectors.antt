-- A register of the banks 5 to 7, by its register byte.
-- Assumes nothing.
use mathlib.Core.Path.{◌≡◌, refl}
use Rattle.operands.specs.declared.Operand.{Operand}
use Rattle.operands.specs.declared.Operand.TheVariants.{Absent, Register, Imm, Absolute16, Absolute32, Memory}
use Rattle.operands.specs.Parts.{register_of, is_vector}
use Rattle.operands.specs.RegisterBytes.{is_vector_byte}

-- the register byte alone says which register is a vector's: what is no register has the byte 0
pub vector_by_byte : (o : Operand) → is_vector o ≡ is_vector_byte (register_of o)
vector_by_byte Absent = refl
vector_by_byte (Register place reg) = refl
vector_by_byte (Imm kind value) = refl
vector_by_byte (Absolute16 segment address) = refl
vector_by_byte (Absolute32 segment address) = refl
vector_by_byte (Memory segment address mask) = refl
