pub mod Failure
pub mod Session
