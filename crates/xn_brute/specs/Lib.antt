pub mod Known
pub mod Leaf
pub mod Bound
pub mod Insertions
pub mod Growth
pub mod Drawings
pub mod Found
