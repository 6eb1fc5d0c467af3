pub mod Steps
pub mod Done
pub mod RowCases
pub mod Replays
pub mod Undoing
pub mod Tested
