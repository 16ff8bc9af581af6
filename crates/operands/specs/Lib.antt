-- What a record says and what a line shows, by value. Definitions only: the laws are in proofs/.
pub mod Kinds
pub mod RegisterBytes
pub mod Flags
pub mod Parts
