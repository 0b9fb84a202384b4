-- what crates above cite
pub mod Sorting
pub mod Tautologies
pub mod Asked
-- what this crate alone cites
mod Padding
mod LinesLemmas
mod LaidLemmas
