pub mod Columns
pub mod Scan
mod Turns
mod Weights
mod Word
pub mod WordLaw
