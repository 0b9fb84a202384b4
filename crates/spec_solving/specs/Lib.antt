pub mod Solving
pub mod Holding
pub mod Examples
pub mod Calls
