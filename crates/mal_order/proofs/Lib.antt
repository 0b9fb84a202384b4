-- what crates above cite
pub mod CountedLemmas
pub mod FreeLemmas
-- what this crate alone cites
mod RingLemmas
