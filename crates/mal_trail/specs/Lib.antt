pub mod Trailed
pub mod Rooms
