pub mod Lines
pub mod Numbers
pub mod Asks
pub mod Inputs
pub mod Faults
pub mod Laws
pub mod Examples
