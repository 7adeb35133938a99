pub mod Buffers
pub mod Compares
pub mod Lawful
pub mod Sinks
pub mod Texts
