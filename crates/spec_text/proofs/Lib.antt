-- what crates above cite
pub mod Clean
pub mod Names
pub mod Again
pub mod Read
pub mod Numerals
pub mod Asked
-- what this crate alone cites
pub mod Examples
