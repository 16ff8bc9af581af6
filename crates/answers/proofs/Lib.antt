pub mod Firsts
pub mod Outcomes
pub mod Unique
pub mod Lines
pub mod Numbers
