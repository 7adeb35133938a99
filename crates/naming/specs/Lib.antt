pub mod Next
pub mod Laws
pub mod Cases
