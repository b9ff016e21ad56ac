mod Laws
pub mod Turns
