pub mod Empty
pub mod Items
pub mod Counts
pub mod Siblings
pub mod Loading
pub mod Computed
pub mod Refusing
