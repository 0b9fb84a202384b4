-- what this crate alone cites
mod Digits
mod Fronts
mod Listing
mod Plain
mod Texts
