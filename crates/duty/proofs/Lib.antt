pub mod Laws
pub mod Same
pub mod Loaded
pub mod Told
