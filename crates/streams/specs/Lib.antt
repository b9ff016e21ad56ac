pub mod Reading
pub mod Ahead
