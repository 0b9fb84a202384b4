pub mod Changed
pub mod Coming
pub mod Counted
pub mod Filled
pub mod Numbered
pub mod Kept
