-- what crates above cite
pub mod AskedLemmas
pub mod EvidenceLemmas
pub mod FirstLemmas
pub mod OpenLemmas
pub mod RoundLemmas
pub mod SearchLemmas
pub mod StayLemmas
pub mod ToldLemmas
-- what this crate alone cites
mod GrowLemmas
mod ExampleLemmas
