-- what this crate alone cites
mod Lefts
mod TrueLemmas
mod PlaceLemmas
mod SoundLemmas
mod NumberLemmas
mod AssumedLemmas
