pub mod Told
pub mod Examine
pub mod Walk
pub mod Turns
