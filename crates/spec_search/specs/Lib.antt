pub mod Step
pub mod Slice
pub mod Derived
pub mod Laws
pub mod Examples
pub mod Dropping
pub mod DroppingLaws
pub mod Covering
