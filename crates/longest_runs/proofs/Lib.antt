pub mod Runs
pub mod Counted
pub mod Settled
pub mod Underway
pub mod Kept
pub mod Looks
pub mod Turns
pub mod Existence
