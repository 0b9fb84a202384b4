-- what crates above cite
pub mod ListLemmas
pub mod SoundLemmas
-- what this crate alone cites
mod OrderLemmas
mod FollowLemmas
mod ManyLemmas
mod TestLemmas
mod FieldLemmas
mod BeginsLemmas
mod AgainLemmas
mod CanonicalLemmas
mod FirstLemmas
