pub mod Starting
pub mod FirstStep
