-- What a pass leaves of the bytes that are held, for the runs that repeat it.
pub mod Lines
pub mod Locating
