-- Laws of a listing that arrives in parts, for the proofs here and in the crates above.
pub mod Stepping
pub mod Onward
pub mod Passing
pub mod Streaming
pub mod Running
pub mod Counting
pub mod Totals
pub mod Ending
