pub mod Used
pub mod ActiveEntries
pub mod Lines
pub mod Tournaments
pub mod Seats
pub mod Kept
pub mod KeyRows
pub mod Keys
