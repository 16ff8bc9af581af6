-- Laws of bodies, for the proofs here and in the crates above.
pub mod Picks
pub mod OperandPlaces
pub mod Lengths
pub mod InRest
pub mod Versions
pub mod Signed
pub mod Operands
pub mod Accepted
pub mod ByKind
pub mod Counted
pub mod OldKept
pub mod Examples
pub mod OldAccepted
