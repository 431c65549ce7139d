pub mod Steps
pub mod Begins
