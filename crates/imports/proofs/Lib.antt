pub mod Texts
pub mod Growing
pub mod Going
pub mod Grouping
pub mod Taking
pub mod Reading
pub mod Importing
