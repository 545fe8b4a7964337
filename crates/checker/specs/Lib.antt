pub mod Checked
pub mod Lengths
