-- what crates above cite
pub mod DriveLemmas
-- what this crate alone cites
mod Parts
mod RoomLemmas
mod EntryLemmas
mod TellingLemmas
mod NameLemmas
mod KeptLemmas
mod NumberLemmas
mod HallLemmas
mod LeaseLemmas
mod PhaseLemmas
mod RecallLemmas
mod InsideLemmas
mod ApplyLemmas
mod LookingLemmas
mod MovingLemmas
