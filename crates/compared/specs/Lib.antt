-- Where two listings differ. Definitions only: the laws are in proofs/.
pub mod Places
pub mod Events
pub mod Report
pub mod Text
pub mod Statements
pub mod Pass
pub mod Runs
pub mod Code
pub mod Eights
