pub mod PieceLemmas
pub mod AgreementLemmas
pub mod TidyLemmas
