pub mod Parsed
pub mod Items
pub mod Merged
pub mod Found
