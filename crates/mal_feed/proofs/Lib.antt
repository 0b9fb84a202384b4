-- what this crate alone cites
mod Apart
mod Closing
mod Rows
mod Names
mod Pieces
