-- what crates above cite
pub mod DerivationLemmas
pub mod RefutationLemmas
-- what this crate alone cites
mod ExampleLemmas
