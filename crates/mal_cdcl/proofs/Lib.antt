-- what crates above cite
pub mod HeldCountLemmas
pub mod StepLemmas
pub mod LineLemmas
pub mod SourceLemmas
pub mod DeriveLemmas
-- what this crate alone cites
mod OriginalLemmas
mod FillLemmas
mod NeedLemmas
mod PickLemmas
mod TellingLemmas
mod ImportingLemmas
mod ImageLemmas
mod BumpLemmas
mod SliceLemmas
mod PastLemmas
mod RestartLemmas
