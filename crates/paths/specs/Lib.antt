pub mod Paths
pub mod Shared
pub mod Laws
