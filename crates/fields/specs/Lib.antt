pub mod Fields
pub mod Cursor
pub mod Spelling
pub mod Told
