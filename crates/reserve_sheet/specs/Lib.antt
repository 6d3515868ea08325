pub mod Form
pub mod Printed
pub mod Values
