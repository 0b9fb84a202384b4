pub mod Goals
pub mod Logged
pub mod Marks
