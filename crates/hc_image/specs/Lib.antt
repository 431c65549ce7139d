pub mod Images
pub mod Spelled
pub mod Parts
pub mod Counts
pub mod Readings
pub mod Laws
