pub mod FieldTests
pub mod FieldReads
pub mod Rooms
pub mod Lengths
