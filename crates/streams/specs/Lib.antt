-- A listing that arrives in parts. Definitions only: the laws are in proofs/, but for those that an `impl` cites (Ways).
pub mod Stream
pub mod Pass
pub mod Stages
pub mod Ways
pub mod Runs
pub mod Counts
pub mod Code
