pub mod Weights
pub mod Texts
