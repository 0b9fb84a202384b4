mod Headings
mod ReadingLemmas
mod Tellings
mod Together
