-- the two rules
pub mod Bounds
pub mod Loop
pub mod Ended
pub mod House
-- walks and programs
pub mod Acceptance
pub mod Faults
pub mod Unreached
-- computed sheets
pub mod OldRule
-- the statements together
pub mod Theorems
-- and a sheet to which they apply
pub mod Example
