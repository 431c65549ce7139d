pub mod LogLemmas
pub mod FollowLemmas
pub mod StallLemmas
pub mod PlayLemmas
pub mod SentLemmas
