pub mod Steps
pub mod Signs
pub mod Folds
pub mod Caps
