pub mod Divisors
pub mod Laws
pub mod Sets
