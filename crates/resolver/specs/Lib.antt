pub mod Resolved
pub mod Answers
pub mod Resolves
