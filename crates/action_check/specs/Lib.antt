pub mod ActionsFit
pub mod Lines
