pub mod Kept
pub mod Moving
pub mod Turning
