pub mod Total
pub mod Puts
pub mod Repeats
pub mod Walks
pub mod Collects
pub mod Reached
pub mod Yields
