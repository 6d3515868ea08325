pub mod Finer
pub mod Fcr
pub mod Afrr
pub mod Mfrr
pub mod Claims
