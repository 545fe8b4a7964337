pub mod LawsFields
pub mod LawsPasses
pub mod LawsFaults
pub mod LawsOperands
pub mod LawsMissing
pub mod LawsErrors
pub mod LawsBlock
pub mod LawsReported
