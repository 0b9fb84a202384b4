-- what crates above cite
pub mod Written
pub mod Fronts
-- what this crate alone cites
mod Values
mod Cuts
