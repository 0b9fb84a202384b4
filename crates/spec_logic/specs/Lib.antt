pub mod Logic
pub mod Derivation
pub mod Refutation
pub mod Laws
pub mod Examples
