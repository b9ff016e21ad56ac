pub mod Runs
pub mod Room
pub mod Existence
pub mod Determined
