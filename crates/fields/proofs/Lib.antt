pub mod Laws
pub mod Letters
