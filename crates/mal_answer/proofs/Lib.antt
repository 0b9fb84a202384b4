-- what crates above cite
pub mod Meanings
pub mod Complaints
pub mod Lawful
pub mod Serving
pub mod ScriptLemmas
pub mod Descriptions
pub mod Replied
-- what this crate alone cites
pub mod Decimals
pub mod Denials
mod Prefixes
pub mod Counting
mod Replaying
mod Losing
