pub mod Rules
pub mod Stems
pub mod Letters
pub mod ArmGroups
pub mod ArmNumbers
