pub mod Extents
pub mod Knowing
pub mod Counting
