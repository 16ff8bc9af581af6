-- What stands at a place of a listing that may still go on. Definitions only.
pub mod Longest
pub mod Code
