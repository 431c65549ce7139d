pub mod Watchings
pub mod FrontAnswered
pub mod FrontPaths
pub mod FrontReplayed
pub mod FrontLaws
pub mod Satisfied
pub mod GoesPast
