-- Worked examples of the reader, its own choices, lines that an assembler was asked about, and the laws by which texts that are put
-- together from parts are read.
pub mod Examples
pub mod Choices
pub mod Distinct
pub mod Stored
pub mod Tokens
pub mod Comments
pub mod Numerals
pub mod Expressions
pub mod Decorations
pub mod Digits
pub mod Texts
pub mod Leaves
