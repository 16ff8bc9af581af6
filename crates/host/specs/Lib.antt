-- What the C host sees. Definitions only.
pub mod Packed
