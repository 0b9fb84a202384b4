-- what this crate alone cites
mod LastLemmas
