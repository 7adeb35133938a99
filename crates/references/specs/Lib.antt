pub mod References
pub mod Laws
pub mod Kept
