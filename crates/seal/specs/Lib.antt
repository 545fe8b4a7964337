pub mod Cases
pub mod Table
pub mod Linear
pub mod Burst
pub mod Theorems
pub mod Exported
