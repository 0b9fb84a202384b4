-- what this crate alone cites
mod RoundLemmas
