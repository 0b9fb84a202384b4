pub mod Finishing
pub mod Passing
pub mod Said
pub mod Serving
