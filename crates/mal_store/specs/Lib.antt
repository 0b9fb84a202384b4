pub mod Arena
pub mod Indexed
pub mod Stored
