-- what this crate alone cites
mod Texts
mod Steps
mod Found
mod Counted
pub mod GenerateSteps
mod InPlace
mod Names
