pub mod Accounts
pub mod Clusters
pub mod Stopping
pub mod Live
