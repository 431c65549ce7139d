pub mod Targets
pub mod PlainTargets
