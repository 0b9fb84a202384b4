-- what this crate alone cites
mod Bodies
mod Models
mod Refutations
