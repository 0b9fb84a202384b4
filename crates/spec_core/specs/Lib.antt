pub mod Core
pub mod Right
pub mod Laws
pub mod Examples
