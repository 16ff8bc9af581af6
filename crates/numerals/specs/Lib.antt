-- Document 01, "Numbers and brackets": numerals, displacements and absolutes. Definitions only: the laws are in proofs/.
pub mod Digits
pub mod Numerals
pub mod Decimals
pub mod Code
