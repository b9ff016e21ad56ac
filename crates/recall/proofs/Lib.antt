pub mod States
pub mod Known
pub mod Looking
pub mod Turns
pub mod Passing
pub mod Setting
