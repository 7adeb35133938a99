pub mod Meets
pub mod Cases
pub mod Refusals
