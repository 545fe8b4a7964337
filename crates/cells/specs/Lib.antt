pub mod Packed
pub mod Meeting
pub mod States
pub mod Laws
