-- what this crate alone cites
mod InquiryLemmas
mod SearchLemmas
