pub mod Named
pub mod Rising
pub mod Dropped
pub mod Halving
