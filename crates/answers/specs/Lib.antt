-- What an entry point returns, and document 01's table of answers. Definitions only: the laws are in proofs/.
pub mod Refusals
pub mod Reasons
pub mod Outcomes
pub mod Table
pub mod Lines
pub mod Code
