pub mod Leaves
pub mod Saved
pub mod Opened
pub mod Recovered
pub mod Causes
