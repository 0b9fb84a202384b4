pub mod Course
pub mod Supported
pub mod Laws
