-- what crates above cite
pub mod MergedLemmas
pub mod SpelledLemmas
-- what this crate alone cites
pub mod ExampleLemmas
mod WordLemmas
mod NumeralLemmas
mod WrittenLemmas
