pub mod Blocks
pub mod Growth
pub mod Laws
pub mod Lows
pub mod Parted
pub mod Search
