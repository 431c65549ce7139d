pub mod Unserved
pub mod Kept
