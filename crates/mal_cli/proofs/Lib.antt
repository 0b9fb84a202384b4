-- what this crate alone cites
pub mod ClusterLemmas
pub mod CountLemmas
pub mod SearchLemmas
pub mod Replays
pub mod Rules
mod Stopping
mod LiveLemmas
