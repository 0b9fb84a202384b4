-- what this crate alone cites
pub mod Examples
