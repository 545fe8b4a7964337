pub mod Faults
pub mod Checks
pub mod Defs
pub mod Parts
