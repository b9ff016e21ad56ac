pub mod Line
pub mod Lines
pub mod Faults
pub mod Tests
pub mod Loaded
pub mod Print
