pub mod Rounds
pub mod Evidence
pub mod Asking
pub mod Searches
pub mod Laws
pub mod Examples
