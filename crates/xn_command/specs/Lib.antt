pub mod Gives
pub mod Items
pub mod Parsed
pub mod Refusals
pub mod Request
