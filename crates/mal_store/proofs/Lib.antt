-- which clauses stand among others, and that the order of numbers to forget is all the same
pub mod AmongLemmas
pub mod ForgetLemmas
-- what this crate alone cites
mod IdLemmas
mod EntryLemmas
mod HeaderLemmas
mod LaidLemmas
mod WonLemmas
mod HeldLemmas
mod CountLemmas
mod SettledLemmas
mod ShortLemmas
mod StoreLemmas
