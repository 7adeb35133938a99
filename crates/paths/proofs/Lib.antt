pub mod Names
pub mod Ends
pub mod Leads
pub mod Steps
