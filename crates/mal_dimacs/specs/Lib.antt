pub mod Reads
pub mod Counts
pub mod Spaced
pub mod Merged
