-- what crates above cite
pub mod RisingLemmas
pub mod RemovedLemmas
pub mod NarrowedLemmas
pub mod SearchLemmas
-- what this crate alone cites
mod ExampleLemmas
