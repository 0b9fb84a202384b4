-- what crates above cite
pub mod Paths
pub mod Keeps
pub mod Wholes
-- what this crate alone cites
mod Lists
mod Records
mod Births
