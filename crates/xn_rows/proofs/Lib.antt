pub mod Decided
pub mod Excluded
pub mod Found
pub mod Judged
