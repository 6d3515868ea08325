pub mod Handed
pub mod Through
pub mod Answered
