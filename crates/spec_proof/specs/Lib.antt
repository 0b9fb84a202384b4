pub mod Log
pub mod Trimmed
pub mod Laws
pub mod Examples
pub mod Among
