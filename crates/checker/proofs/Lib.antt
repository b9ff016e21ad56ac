pub mod Opened
pub mod Judging
pub mod Cut
