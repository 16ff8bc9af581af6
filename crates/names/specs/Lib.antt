-- The words of a line. Definitions only: the laws are in proofs/.
pub mod Opcodes
pub mod Registers
pub mod Code
pub mod Labels
pub mod Rules
pub mod Among
