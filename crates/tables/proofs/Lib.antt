pub mod LawsFilled
pub mod LawsResult
