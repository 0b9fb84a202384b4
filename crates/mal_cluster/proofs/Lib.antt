-- what this crate alone cites
mod KeptLemmas
mod FindingLemmas
mod MovingLemmas
mod TurningLemmas
