pub mod SizedLemmas
pub mod ListedLemmas
pub mod SectionLemmas
pub mod ExampleLemmas
