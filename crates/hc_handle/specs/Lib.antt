pub mod Pointers
pub mod Images
pub mod Readings
pub mod Sessions
pub mod Texts
pub mod TextLaws
pub mod Calls
