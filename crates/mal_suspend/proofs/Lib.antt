-- what this crate alone cites
mod ReplayLemmas
mod StartLemmas
mod EntryLemmas
mod RebuildLemmas
mod FormLemmas
mod LengthLemmas
