pub mod ReadResult
pub mod Counting
pub mod InPlace
pub mod TakenNames
