-- what crates above cite
pub mod Among
pub mod Deriving
pub mod LogLemmas
pub mod Growing
pub mod Reaching
pub mod OrderLemmas
pub mod Refuting
pub mod Contradicting
-- what this crate alone cites
mod Staying
mod Renumbering
mod Examples
