pub mod Little
pub mod Puts
pub mod Values
pub mod Lents
