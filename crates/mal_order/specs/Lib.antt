pub mod Ordered
pub mod Rings
