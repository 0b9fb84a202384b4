-- what crates above cite
pub mod Moved
-- what this crate alone cites
mod Gains
