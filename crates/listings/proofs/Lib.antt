pub mod LineLaws
pub mod Fronts
pub mod Walking
pub mod Outcomes
pub mod Unique
