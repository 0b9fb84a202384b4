-- what crates above cite
pub mod Evidence
pub mod KeyLemmas
pub mod OpenLemmas
pub mod PostingLemmas
pub mod CompleteLemmas
pub mod HomeLemmas
pub mod LossLemmas
pub mod StayLemmas
pub mod PostLemmas
pub mod ReplayLemmas
pub mod RunLemmas
pub mod TenantLemmas
-- what this crate alone cites
mod DecidedLemmas
