-- The text of an item and of a line. Definitions only: the laws are in proofs/.
pub mod Fronts
pub mod Brackets
pub mod Items
pub mod Head
pub mod Text
pub mod Code
