pub mod Held
pub mod Lines
pub mod Laws
pub mod Cases
