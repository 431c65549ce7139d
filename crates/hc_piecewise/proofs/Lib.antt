pub mod Props
pub mod Texts
pub mod Pieces
pub mod Refusals
