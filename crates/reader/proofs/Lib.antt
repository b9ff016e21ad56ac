pub mod Turns
pub mod Line
pub mod Text
pub mod Faults
pub mod Written
