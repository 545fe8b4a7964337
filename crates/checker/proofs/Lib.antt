pub mod Refused
pub mod Laws
pub mod Texts
pub mod Zero
pub mod Theorems
