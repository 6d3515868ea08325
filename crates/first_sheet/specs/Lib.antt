pub mod Grains
pub mod Fcr
pub mod Afrr
pub mod Mfrr
pub mod Claims
