mod EntryLemmas
mod GlueLemmas
