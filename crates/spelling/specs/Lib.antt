pub mod Parted
pub mod Spelled
pub mod Short
pub mod Added
pub mod Theorems
