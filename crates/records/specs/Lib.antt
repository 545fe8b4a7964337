pub mod Records
pub mod Parts
pub mod Pairs
pub mod Letters
