pub mod Lifetimes
pub mod Ages
pub mod Allowed
pub mod Facts
pub mod Vary
pub mod Laws
