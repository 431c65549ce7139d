pub mod EtagLemmas
pub mod TagLemmas
pub mod TagReads
pub mod ListReads
