pub mod Reading
pub mod Grammar
pub mod Posts
pub mod Orders
pub mod FaultLines
pub mod Laws
pub mod Examples
