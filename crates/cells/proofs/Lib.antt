pub mod Laws
pub mod Rows
pub mod States
pub mod Masks
