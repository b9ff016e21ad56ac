pub mod Putting
pub mod Held
pub mod Ends
pub mod Arrays
pub mod Calls
pub mod Due
pub mod Result
pub mod Verdict
