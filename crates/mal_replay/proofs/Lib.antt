-- what this crate alone cites
mod EnterLemmas
