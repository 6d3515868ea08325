pub mod Copy
pub mod Claims
