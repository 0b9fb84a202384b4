-- what crates above cite
pub mod FollowLemmas
-- what this crate alone cites
mod Parts
mod LogLemmas
mod ToldLemmas
mod TakenLemmas
mod ExchangeLemmas
mod PlaceLemmas
mod LoadingLemmas
mod StateLemmas
mod TreeLemmas
mod KeptLemmas
mod PartLemmas
mod FinishLemmas
mod StartLemmas
mod LentLemmas
mod FindingLemmas
