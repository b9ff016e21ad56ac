pub mod Written
pub mod Result
pub mod Answer
pub mod Lines
