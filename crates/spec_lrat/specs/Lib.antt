pub mod Reading
pub mod Grammar
pub mod Written
pub mod Laws
pub mod Examples
