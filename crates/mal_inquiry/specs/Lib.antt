pub mod Causes
pub mod InquiryView
pub mod Searching
