pub mod Measurable
