pub mod Runs
pub mod Search
