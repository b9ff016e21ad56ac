pub mod Counts
pub mod Cuts
pub mod Decides
pub mod Shown
pub mod Places
pub mod Explained
