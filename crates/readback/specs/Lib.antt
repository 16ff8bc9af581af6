-- What a line and a listing show, as MASM's reader has it, and where a branch goes. Definitions only: the theorems are in proofs/.
pub mod Meaning
pub mod Printed
pub mod Targets
pub mod Listings
pub mod Lines
pub mod Located
