-- What each arm shows, and which records are refused by shape or by size. Definitions only: the laws are in proofs/.
pub mod Tests
pub mod Labels
pub mod Decorations
pub mod Plans
pub mod Shape
pub mod Size
pub mod Missing
pub mod Code
