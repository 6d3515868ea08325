pub mod Binary32
pub mod Meters
pub mod Claims
pub mod Values
