pub mod Ready
pub mod Examined
pub mod Stages
pub mod Judging
