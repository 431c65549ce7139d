pub mod Events
pub mod Logs
pub mod Scripts
pub mod Following
pub mod Wires
pub mod Stalls
pub mod Plays
