pub mod Appends
pub mod Nexts
pub mod Fronts
pub mod Proposed
pub mod Values
