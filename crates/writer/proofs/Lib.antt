pub mod LawsLeft
pub mod LawsLines
pub mod LawsText
pub mod LawsSheet
pub mod LawsLoad
pub mod LawsShort
pub mod Theorems
