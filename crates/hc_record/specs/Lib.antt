pub mod Head
pub mod Lines
pub mod Reading
pub mod Record
pub mod Plain
pub mod Parts
