pub mod Visits
pub mod Clusters
pub mod Calls
pub mod Rounds
pub mod Run
pub mod Laws
pub mod Examples
