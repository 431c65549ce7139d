pub mod TargetLemmas
pub mod PlainTargets
