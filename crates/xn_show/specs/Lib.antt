pub mod Darts
pub mod Laws
pub mod Text
pub mod Turns
