pub mod Desk
pub mod Answers
pub mod Measure
pub mod Limits
