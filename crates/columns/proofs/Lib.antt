pub mod LawsPassing
pub mod LawsNumbers
pub mod LawsOperands
pub mod LawsLines
