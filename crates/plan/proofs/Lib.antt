pub mod Planned
pub mod Held
pub mod Risks
pub mod Safe
