-- What it means to write a text into a lent buffer, and what a table of words is. Definitions only: the laws are in proofs/.
pub mod Choice
pub mod Write
pub mod Words
pub mod Code
