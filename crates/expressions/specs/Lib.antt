pub mod Shown
pub mod Leads
pub mod Cases
