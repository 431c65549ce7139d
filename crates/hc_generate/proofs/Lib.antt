pub mod ActLemmas
pub mod ByteLemmas
pub mod CountLemmas
pub mod OrderLemmas
pub mod RangeTexts
pub mod Going
pub mod LimitsKept
pub mod Targets
