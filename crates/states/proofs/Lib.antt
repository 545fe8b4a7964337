pub mod Laws
pub mod LawsCall
pub mod Theorems
