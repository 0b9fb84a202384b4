-- what this crate alone cites
mod Noting
