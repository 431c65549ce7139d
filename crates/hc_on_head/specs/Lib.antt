pub mod Comings
pub mod Frames
