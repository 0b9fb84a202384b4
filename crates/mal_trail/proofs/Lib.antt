-- what crates above cite
pub mod TrailLemmas
pub mod CutLemmas
pub mod FoundLemmas
pub mod FlipLemmas
pub mod AlikeLemmas
-- what this crate alone cites
mod LevelLemmas
mod PlaceLemmas
mod RoomLemmas
mod ValueLemmas
mod SignLemmas
