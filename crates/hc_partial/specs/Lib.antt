pub mod Holes
pub mod Parts
