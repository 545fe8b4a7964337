-- any dataflow problem: its runs, their end, their length
pub mod Choices
pub mod Running
pub mod Passing
pub mod Flow
pub mod Order
pub mod Visits
-- rows of any elements
pub mod Rows
pub mod Heights
-- the two rules
pub mod Meet
pub mod Effects
pub mod Fits
pub mod Bounds
pub mod Spelled
-- checks, walks and programs
pub mod Checks
pub mod Holding
pub mod Honest
pub mod Simulation
pub mod Above
pub mod Witness
pub mod Entries
pub mod Lines
pub mod Former
-- sheets that are read
pub mod Small
pub mod Reading
pub mod Written
-- computed sheets
pub mod Computed
pub mod OldRule
pub mod Needed
pub mod Slips
