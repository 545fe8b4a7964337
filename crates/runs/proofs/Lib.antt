pub mod LawsQueue
pub mod LawsBegin
pub mod LawsPush
pub mod LawsSettled
pub mod LawsVisit
pub mod LawsAnalysis
