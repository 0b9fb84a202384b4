pub mod Owned
pub mod Taking
pub mod Answered
pub mod Told
pub mod Packing
pub mod Replaying
pub mod Parcelled
