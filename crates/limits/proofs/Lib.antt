pub mod Walks
pub mod Same
pub mod Fits
