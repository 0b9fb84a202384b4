-- what crates above cite
pub mod Knowing
pub mod Crossings
-- what this crate alone cites
pub mod CallLemmas
pub mod CallLosses
pub mod RunLosses
pub mod Sharings
mod Withins
mod PoolLemmas
mod Loops
mod Playing
mod LoopLaws
mod Postings
mod Leavings
mod Refused
mod Agreements
mod Stepping
mod Gating
pub mod Parting
