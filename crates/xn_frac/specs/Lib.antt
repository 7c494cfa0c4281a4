pub mod Ratio
pub mod Small
pub mod Laws
