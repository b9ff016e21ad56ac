pub mod Seeing
pub mod Decided
