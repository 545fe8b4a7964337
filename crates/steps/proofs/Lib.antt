pub mod LawsMissing
pub mod LawsChecks
pub mod LawsEffects
