-- what crates above cite
pub mod StayLemmas
pub mod TurnLemmas
pub mod CallLemmas
pub mod LossLemmas
pub mod UnknownLemmas
pub mod Order
pub mod TextLemmas
-- what this crate alone cites
mod ExampleLemmas
