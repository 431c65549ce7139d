pub mod Heads
pub mod Slots
pub mod Causes
pub mod Calls
pub mod Failures
pub mod Entries
