-- what crates above cite
pub mod StepLemmas
pub mod SliceLemmas
pub mod SoundLemmas
pub mod ModelLemmas
pub mod CountLemmas
pub mod LineLemmas
pub mod LinesLemmas
pub mod FewerLemmas
-- what this crate alone cites
mod ExampleLemmas
pub mod ConsistentLemmas
pub mod HintLemmas
mod EmptyLemmas
mod DropLemmas
pub mod OverLemmas
