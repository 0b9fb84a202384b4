-- what this crate alone cites
mod HasLemmas
mod LinkedLemmas
mod FalseLemmas
mod BatchLemmas
mod WalkLemmas
mod CountLemmas
mod TurnLemmas
mod FoundLemmas
mod FollowLemmas
mod WiderLemmas
mod WatchLemmas
mod ListedLemmas
mod FewerLemmas
