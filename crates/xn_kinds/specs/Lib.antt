pub mod Bound
pub mod Examples
pub mod Laws
pub mod Row
pub mod State
pub mod Tree
