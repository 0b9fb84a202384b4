-- what crates above cite
pub mod Refusals
