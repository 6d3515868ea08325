pub mod Sizes
pub mod Ranges
pub mod Values
pub mod Claims
