pub mod Replaying
pub mod Entries
pub mod Counting
pub mod Starting
pub mod Kept
pub mod Freezing
