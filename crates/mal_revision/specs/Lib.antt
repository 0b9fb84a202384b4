pub mod Posted
pub mod Refused
