-- Every row of what the Rust printed holds, and the table is whole.
pub mod Saying
pub mod Limits
pub mod Printed
pub mod Coverage
