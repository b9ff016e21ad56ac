pub mod Alike
pub mod Laws
