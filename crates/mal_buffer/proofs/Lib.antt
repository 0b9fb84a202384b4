-- what this crate alone cites
mod Merging
