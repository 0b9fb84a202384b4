-- what crates above cite
pub mod ToldLemmas
-- what this crate alone cites
mod Counting
