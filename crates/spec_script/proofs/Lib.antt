-- what crates above cite
pub mod Sorted
pub mod Inversions
pub mod Reading
pub mod Bounds
pub mod Assumed
pub mod Written
pub mod Again
pub mod AssumedForms
pub mod Formed
pub mod GeneratedSteps
pub mod GeneratedFormed
pub mod GeneratedScript
-- what this crate alone cites
pub mod ExampleLemmas
mod Blocks
mod Words
pub mod Firsts
mod Parsing
mod Named
mod Differ
