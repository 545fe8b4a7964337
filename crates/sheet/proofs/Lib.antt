pub mod LawsText
pub mod LawsJudged
pub mod LawsProgress
pub mod LawsActions
pub mod LawsLetters
pub mod LawsLoad
