pub mod Roots
pub mod Surplus
pub mod Verdicts
