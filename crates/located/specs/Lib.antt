-- A listing with the place of each record. Definitions only: the laws are in proofs/, but for those that an `impl` cites (Ways).
pub mod Parts
pub mod Located
pub mod Pass
pub mod Ways
pub mod Runs
pub mod Code
