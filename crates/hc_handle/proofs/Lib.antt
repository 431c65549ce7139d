pub mod Reported
pub mod Dropped
pub mod Steps
pub mod Coming
pub mod Larger
pub mod TextPieces
