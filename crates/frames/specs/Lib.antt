-- A listing's version byte, its frames and its numbers. Definitions only: the laws are in proofs/.
pub mod Numbers
pub mod Frames
pub mod Code
