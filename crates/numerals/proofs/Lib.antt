pub mod Places
pub mod Texts
pub mod Examples
pub mod Short
pub mod Tens
pub mod Signed
