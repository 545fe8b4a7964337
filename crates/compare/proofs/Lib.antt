pub mod Laws
pub mod LawsPart
pub mod LawsLine
pub mod LawsRest
pub mod LawsText
pub mod Theorems
