-- what crates above cite
pub mod InputLemmas
-- what this crate alone cites
mod ExampleLemmas
mod InputExampleLemmas
mod SearchLemmas
mod TextLemmas
