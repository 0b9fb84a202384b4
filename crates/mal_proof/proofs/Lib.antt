-- what this crate alone cites
mod Keeping
mod Lending
mod Marking
mod Trimming
mod Placing
mod Bounding
mod Ending
