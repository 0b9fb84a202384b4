-- what crates above cite
pub mod Unique
pub mod Single
-- what this crate alone cites
mod Front
