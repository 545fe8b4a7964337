pub mod Form
pub mod Load
pub mod Within
pub mod Filled
