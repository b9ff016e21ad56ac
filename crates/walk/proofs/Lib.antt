pub mod Told
pub mod Walking
pub mod Acceptance
pub mod Turning
