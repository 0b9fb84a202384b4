pub mod Course
pub mod Dues
pub mod Expected
