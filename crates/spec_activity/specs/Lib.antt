pub mod Activity
pub mod Pace
pub mod Rank
pub mod Laws
pub mod Examples
