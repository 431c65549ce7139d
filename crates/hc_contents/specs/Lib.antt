pub mod PlainContents
pub mod Fit
pub mod Known
