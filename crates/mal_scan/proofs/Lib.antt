-- what this crate alone cites
mod BatchLemmas
