pub mod Held
pub mod Moves
pub mod Pieces
