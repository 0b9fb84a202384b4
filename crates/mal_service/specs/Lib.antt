pub mod Record
pub mod Passes
pub mod Laws
pub mod Entries
pub mod Posts
pub mod News
