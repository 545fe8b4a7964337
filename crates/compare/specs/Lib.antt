pub mod Places
pub mod Written
pub mod Pieces
pub mod Spelled
