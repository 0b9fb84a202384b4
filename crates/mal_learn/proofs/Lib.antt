-- what crates above cite
pub mod OrderedLemmas
-- what this crate alone cites
mod FlagLemmas
mod WalkLemmas
mod CountLemmas
mod ShowsLemmas
mod SortLemmas
mod AnalysedLemmas
mod TraceLemmas
mod ShortenLemmas
mod ReasonLemmas
mod ChoiceLemmas
mod ProfileLemmas
mod PackLemmas
mod WayLemmas
