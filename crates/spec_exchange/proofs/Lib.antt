-- what crates above cite
pub mod OrderLemmas
pub mod UnionLemmas
pub mod PrefixLemmas
pub mod TreeLemmas
pub mod SortLemmas
pub mod ClimbLemmas
-- what this crate alone cites
mod Examples
