pub mod Answers
pub mod Loaded
pub mod Steps
