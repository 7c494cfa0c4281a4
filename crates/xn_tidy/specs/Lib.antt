pub mod FirstUse
pub mod Numbering
