pub mod Choosing
pub mod Writing
pub mod Putting
pub mod Tables
pub mod Copies
