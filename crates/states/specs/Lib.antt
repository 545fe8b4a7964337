pub mod EntryStates
pub mod Stated
