-- A listing: its lines and its outcome. Definitions only: the laws are in proofs/.
pub mod Lines
pub mod Listings
pub mod Code
