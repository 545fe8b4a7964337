pub mod Columns
pub mod Bounds
pub mod Agreeing
pub mod Unbroken
pub mod Theorems
