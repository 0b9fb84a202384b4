-- what crates above cite
pub mod FollowLemmas
-- what this crate alone cites
mod ChoiceLemmas
mod MarkLemmas
