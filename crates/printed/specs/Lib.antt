-- What the Rust printed, as a table, and what a row of it says. Definitions only: the theorems are in proofs/.
pub mod Rows
pub mod TableBranch
pub mod TableGeneral
pub mod TableName
pub mod TableArm
pub mod TableRefusal
pub mod TableListing
pub mod TableMask
pub mod TableVector
pub mod TableLimit
pub mod Table
pub mod Coverage
