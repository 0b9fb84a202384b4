pub mod Posting
pub mod Coming
pub mod Telling
