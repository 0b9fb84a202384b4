-- what crates above cite
pub mod Lists
pub mod Filters
pub mod Parsing
pub mod Reading
-- what this crate alone cites
pub mod ExampleLemmas
pub mod Firsts
pub mod PostOne
mod WordLaws
mod Running
mod Scripts
mod Orders
