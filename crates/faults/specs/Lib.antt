pub mod Errors
pub mod Blocks
pub mod Passes
pub mod Missing
pub mod Reported
