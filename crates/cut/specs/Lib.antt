pub mod Cut
pub mod Running
pub mod Claims
