pub mod Stops
pub mod Counting
pub mod Endings
pub mod Breaks
pub mod Courses
pub mod Stepping
pub mod Pieces
