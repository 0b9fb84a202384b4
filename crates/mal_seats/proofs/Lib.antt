-- what this crate alone cites
mod ScanLemmas
mod CountLemmas
mod FilledLemmas
mod NumberLemmas
mod ChangedLemmas
