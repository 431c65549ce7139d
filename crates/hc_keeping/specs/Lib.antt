pub mod Keeps
pub mod Images
