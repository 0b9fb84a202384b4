pub mod Going
pub mod Imports
pub mod Ways
