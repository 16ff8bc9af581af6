-- What each place of a line shows of a record. Definitions only: the laws are in proofs/.
pub mod Labels
pub mod Places
pub mod Order
