pub mod Arrays
pub mod States
