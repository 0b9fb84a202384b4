-- what crates above cite
pub mod ServingLemmas
-- what this crate alone cites
mod Examples
