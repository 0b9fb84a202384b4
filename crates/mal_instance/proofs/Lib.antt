-- what crates above cite
pub mod FirstLines
pub mod FormulaLemmas
pub mod ReadLemmas
pub mod LitsLemmas
pub mod WordLemmas
-- what this crate alone cites
mod ExampleLemmas
