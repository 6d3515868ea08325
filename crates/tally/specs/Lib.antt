pub mod Tally
pub mod Values
