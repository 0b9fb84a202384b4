pub mod ReadResult
pub mod Values
pub mod Counted
