pub mod Filled
pub mod Load
