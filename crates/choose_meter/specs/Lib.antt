pub mod Records
pub mod Printed
pub mod Claims
pub mod Values
