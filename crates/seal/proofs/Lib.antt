pub mod Laws
pub mod LawsText
pub mod LawsSeal
