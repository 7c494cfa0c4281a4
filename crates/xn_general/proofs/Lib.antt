pub mod Bounds
pub mod Fours
pub mod InWeb
pub mod Touch
pub mod Webs
