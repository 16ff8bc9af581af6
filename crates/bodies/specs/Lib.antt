-- What a record body says, and which bodies are refused. Definitions only: the laws are in proofs/.
pub mod Body
pub mod Refusals
pub mod Decoding
pub mod Versions
pub mod WellFormed
pub mod Code
pub mod Document01
