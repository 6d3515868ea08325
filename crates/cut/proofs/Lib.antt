pub mod Parts
pub mod Told
pub mod Claims
