-- what crates above cite
pub mod CourseLemmas
pub mod RefutedLemmas
