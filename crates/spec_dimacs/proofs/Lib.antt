-- what crates above cite
pub mod Merging
pub mod Numbers
pub mod Behind
pub mod Spelled
pub mod Again
pub mod Laws
pub mod Led
pub mod Texts
pub mod FirstLine
-- what this crate alone cites
mod Steps
mod Firsts
pub mod Examples
mod Differ
