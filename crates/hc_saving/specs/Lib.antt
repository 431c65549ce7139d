pub mod Leaving
pub mod LeftCaches
pub mod Begins
pub mod Saves
pub mod Silence
pub mod Opens
pub mod Continued
pub mod Recovers
