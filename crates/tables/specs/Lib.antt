pub mod Held
pub mod Table
pub mod Allowed
pub mod Laws
