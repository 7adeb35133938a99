pub mod Lines
pub mod Offers
pub mod Runs
pub mod Telling
