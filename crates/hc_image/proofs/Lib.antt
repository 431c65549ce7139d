pub mod Once
pub mod Taken
pub mod Written
pub mod Fitting
pub mod Lists
pub mod Skipped
pub mod Items
pub mod Reading
