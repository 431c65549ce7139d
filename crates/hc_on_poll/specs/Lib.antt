pub mod Ready
pub mod Readers
pub mod Keeps
