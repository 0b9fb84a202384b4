pub mod Rows
pub mod Heaps
pub mod Heaped
