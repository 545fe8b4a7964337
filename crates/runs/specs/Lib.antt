pub mod Queue
pub mod Stands
pub mod Settled
