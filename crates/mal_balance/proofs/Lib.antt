-- what this crate alone cites
mod Claims
mod Giving
