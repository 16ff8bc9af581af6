-- The laws that the proofs of this crate, and crates above, cite.
pub mod Results
pub mod Mmword
pub mod ByArm
pub mod GeneralPath
pub mod Labelled
pub mod MissingSizes
pub mod Lacking
pub mod Ordered
pub mod Over16
pub mod Tails
pub mod PlainPlans
pub mod Vectors
