pub mod Rows
pub mod Reading
pub mod Grammar
pub mod FaultLines
pub mod Laws
pub mod Examples
pub mod ReadResult
