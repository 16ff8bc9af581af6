pub mod Sums
pub mod Modulo
pub mod Compared
pub mod Wrapping
pub mod Words
