pub mod Calls
pub mod Hex
pub mod Replies
pub mod Texts
pub mod Words
pub mod Checks
