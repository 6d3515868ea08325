pub mod Counting
pub mod Adding
pub mod Seconds
pub mod Blocks
pub mod Past
pub mod KeptAfter
pub mod Claims
