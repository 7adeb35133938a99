pub mod Roots
pub mod Firsts
pub mod Ties
pub mod Listed
pub mod Kept
