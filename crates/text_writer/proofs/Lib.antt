pub mod Length
pub mod Writing
