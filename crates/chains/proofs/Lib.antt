pub mod Opened
pub mod Dots
pub mod Leading
pub mod Reaching
