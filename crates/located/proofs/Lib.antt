-- Laws of a listing with the place of each record.
pub mod BodyTexts
pub mod RecordParts
pub mod PartLaws
pub mod Going
pub mod Passing
pub mod Running
pub mod Existing
pub mod Examples
