pub mod Cuts
pub mod Repeating
pub mod Going
pub mod Skipped
pub mod Gathering
pub mod Agreeing
pub mod Reaching
