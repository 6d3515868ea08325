pub mod Text
pub mod Kept
pub mod Running
pub mod Counts
pub mod Claims
