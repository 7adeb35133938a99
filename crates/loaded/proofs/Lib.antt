pub mod Spelling
pub mod Gathering
pub mod Filed
pub mod Calling
pub mod Firsts
pub mod Outcomes
pub mod Leading
pub mod Telling
