pub mod Draws
pub mod Luby
pub mod Laws
