pub mod Number
pub mod Calls
