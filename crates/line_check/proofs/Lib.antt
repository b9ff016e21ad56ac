pub mod Laws
pub mod LineFits
