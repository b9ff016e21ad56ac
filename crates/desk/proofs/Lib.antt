pub mod Answers
pub mod Measure
pub mod Numbers
pub mod Cut
