pub mod Basics
pub mod NumberLemmas
pub mod ElementLemmas
pub mod LawLemmas
pub mod Cuts
pub mod Cutting
pub mod Growth
pub mod SortedLemmas
