pub mod Numbers
pub mod Rule
pub mod Steps
pub mod Many
pub mod Laws
pub mod Tokens
