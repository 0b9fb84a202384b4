pub mod Counter
pub mod Cost
pub mod Laws
pub mod Examples
pub mod Optimum
pub mod Right
pub mod OptimumLaws
pub mod SearchExamples
