-- what this crate alone cites
mod Made
mod Texts
mod Answered
mod Rows
mod Rising
