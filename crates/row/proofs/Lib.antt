pub mod Sides
pub mod Claims
