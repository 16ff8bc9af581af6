-- The outcome of one record, its line, and document 01's lines to prove. Definitions only: the laws are in proofs/.
pub mod Records
pub mod Lines
pub mod OldLines
pub mod Judged
pub mod Compared
