pub mod LineView
pub mod Answers
pub mod Spaced
pub mod IdLists
