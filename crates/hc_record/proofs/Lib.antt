pub mod Totals
pub mod TakenParts
pub mod Once
pub mod JoiningLemmas
pub mod Stages
pub mod SameRecords
pub mod NumberCuts
