-- The branch sums of both modes, and the word before `$`. Definitions only: the laws are in proofs/.
pub mod Sums
pub mod Code
