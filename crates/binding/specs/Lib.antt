pub mod Binding
pub mod Laws
pub mod Held
pub mod Sound
pub mod Named
