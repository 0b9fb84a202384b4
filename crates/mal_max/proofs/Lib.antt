-- what crates above cite
pub mod InputLemmas
-- what this crate alone cites
mod CounterLemmas
mod ExampleLemmas
mod QuestionLemmas
mod SearchLemmas
mod TextLemmas
mod InputExampleLemmas
