-- what crates above cite
pub mod VerdictLemmas
pub mod LineLemmas
pub mod ReadLemmas
pub mod JudgedLemmas
-- what this crate alone cites
mod VerdictExampleLemmas
mod ClaimExampleLemmas
mod RowLemmas
mod RowSteps
mod FirstLemmas
