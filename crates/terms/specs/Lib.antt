pub mod Tree
pub mod Meaning
pub mod Mark
pub mod Read
pub mod Depth
pub mod Print
pub mod Fit
