-- what crates above cite
pub mod RecordLemmas
pub mod OpenedLemmas
pub mod LossLemmas
-- what this crate alone cites
mod NotedLemmas
mod PostLemmas
mod StayLemmas
