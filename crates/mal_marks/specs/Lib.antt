pub mod Marked
pub mod Choosing
pub mod Laws
