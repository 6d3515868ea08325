pub mod Judged
pub mod Told
pub mod Claims
pub mod Values
