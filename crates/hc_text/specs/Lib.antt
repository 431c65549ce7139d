pub mod Bodies
pub mod Numbers
pub mod Elements
pub mod Items
pub mod Texts
pub mod Sorted
