pub mod Duty
pub mod Arrays
