-- what crates above cite
pub mod Rows
pub mod Totals
pub mod Extending
pub mod Counting
pub mod Forms
pub mod Refuting
pub mod SolutionLemmas
pub mod SearchLemmas
-- what this crate alone cites
mod ExampleLemmas
