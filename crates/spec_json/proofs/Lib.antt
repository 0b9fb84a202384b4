pub mod ExampleLemmas
pub mod Numbering
pub mod Saying
pub mod StepsRead
pub mod Steps
pub mod Reading
pub mod Firsts
